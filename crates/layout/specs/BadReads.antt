-- The first bad read of a layout, by its condition, and 12 (docs/FORMAT.md, Refusals, 5 to 12). Nothing here refers to the
-- reader.
use Rattle.std.specs.Prelude.{ℕ, ◌+◌, ◌<◌, List, [], ◌∷◌, ◌≡◌, length}
use Rattle.layout.specs.Layout.{Sort, Flag, Number, Fault, refusal_of, Verdict, fine, wrong, Layout, one, text, ◌then◌, case, check, Value, leaves, values_of, Proper}
use Rattle.layout.specs.Written.{width, bytes, Stand}
use Rattle.text.specs.Rfc3629.{Utf8}

-- A proper value v of a layout is in s, in full, from `at` up to `end`
pub record Stands (s : List ℕ) (L : Layout) (at : ℕ) (v : Value L) (end : ℕ) : Type 0 where
  pub proper : Proper L v
  pub there : Stand s at (bytes L v) end

-- The first bad read of a layout at a place of s, where s ends with the payload: the refusal's number and place. Each condition
-- has its number before it and, after the colon, its place
pub data BadRead (s : List ℕ) : Layout → (at number place : ℕ) → Type 0 where
  -- 5, fewer bytes are left than a leaf that holds a number takes: where the leaf begins
  number_cut : {srt : Sort} {at : ℕ} → length s < at + width srt → BadRead s (one srt) at 5 at
  -- 5, fewer bytes are left than the length of a text takes: where the length begins
  length_cut : {at : ℕ} → length s < at + 4 → BadRead s text at 5 at
  -- 5, the length n of a text is there, and fewer than n bytes are left after it: after the length
  text_cut : {at n m : ℕ} → Stands s (one Number) at n m → length s < m + n → BadRead s text at 5 m
  -- 6, a flag is neither 0 nor 1: its byte
  not_flag : {at b m : ℕ} → Stand s at (b ∷ []) m → 1 < b → BadRead s (one Flag) at 6 at
  -- 7, a text t is there in full, and is not valid UTF-8: its first byte, after its length
  text_not_utf8 : {at m end : ℕ} (t : List ℕ) → Stands s (one Number) at (length t) m → Stand s m t end → (Utf8 t → ⊥) → BadRead s text at 7 m
  -- A then B: in A; or A is there in full, and the bad read is in B
  first : {A B : Layout} {at n p : ℕ} → BadRead s A at n p → BadRead s (A then B) at n p
  second : {A B : Layout} {at m n p : ℕ} {a : Value A} → Stands s A at a m → BadRead s B m n p → BadRead s (A then B) at n p
  -- a case: in its leaf, or in the part that is read before the leaf is judged
  before : {srt : Sort} {A : Layout} {j : ℕ → Verdict} {B : ℕ → Layout} {at n p : ℕ} → BadRead s (one srt then A) at n p → BadRead s (case srt A j B) at n p
  -- 8 or 9, both are there in full, and the leaf's number b, a kind or another tag, is judged wrong: the leaf
  bad_leaf : {srt : Sort} {A : Layout} {j : ℕ → Verdict} {B : ℕ → Layout} {at m b : ℕ} {a : Value A} {f : Fault}
      → Stands s (one srt then A) at (b, a) m → j b ≡ wrong f → BadRead s (case srt A j B) at (refusal_of f) at
  -- or b is judged fine, and the bad read is in what follows b
  branch : {srt : Sort} {A : Layout} {j : ℕ → Verdict} {B : ℕ → Layout} {at m n p b : ℕ} {a : Value A}
      → Stands s (one srt then A) at (b, a) m → j b ≡ fine → BadRead s (B b) m n p → BadRead s (case srt A j B) at n p
  -- a part that is judged after it was read: in the part
  inside : {A : Layout} {j : List ℕ → Verdict} {at n p : ℕ} → BadRead s A at n p → BadRead s (check A j) at n p
  -- 10 or 11, it is there in full, and its leaves are judged wrong: where it begins, which is its result byte
  bad_part : {A : Layout} {j : List ℕ → Verdict} {at m : ℕ} {a : Value A} {f : Fault}
      → Stands s A at a m → j (values_of (leaves A a)) ≡ wrong f → BadRead s (check A j) at (refusal_of f) at

-- The bytes from a place to the end of s are not one value of a layout
pub data BadPayload (s : List ℕ) (L : Layout) (at : ℕ) : (number place : ℕ) → Type 0 where
  -- 5 to 11: at the first bad read
  bad_read : {n p : ℕ} → BadRead s L at n p → BadPayload s L at n p
  -- 12: a value is there in full, and bytes remain after it: the first of them
  bytes_remain : {v : Value L} {end : ℕ} → Stands s L at v end → end < length s → BadPayload s L at 12 end
