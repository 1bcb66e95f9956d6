-- The leaves that are read for each form of layout, in terms of the leaves of its parts.
use Prim.Native.Nat.{ℕ}
use mathlib.Core.List.{List, [], ◌∷◌, ◌++◌, append_assoc}
use mathlib.Core.Path.{◌≡◌, refl}
use Rattle.layout.specs.Layout.{Sort, Leaf, plain, string, Verdict, fine, wrong, Layout, nothing, one, text, ◌then◌, case, check, Value, leaves, values_of}
use Rattle.layout.specs.Reading.{Outcome, ok, refuse, ◌>>=◌, judged, Source, walk, leaves_at, plain_at, text_at, in_bytes, read_value, read}

module _ {S : Type 0} where
  -- Leaves read before others
  abbrev pub after : List Leaf → Outcome S (List Leaf) → Outcome S (List Leaf)
  after ls o = o >>= λ ms end. ok (ls ++ ms) end

  pub after_after : (a b : List Leaf) (o : Outcome S (List Leaf)) → after a (after b o) ≡ after (a ++ b) o
  after_after a b (ok ms end) = rw append_assoc
  after_after a b (refuse n p) = refl

  -- The leaves of what was read
  abbrev leaves_of : (L : Layout) → Outcome S (Value L) → Outcome S (List Leaf)
  leaves_of L m = m >>= λ v end. ok (leaves L v) end

  then_leaves : (A B : Layout) (m : Outcome S (Value A)) (f : S → Outcome S (Value B))
      → leaves_of (A then B) (m >>= λ a st. f st >>= λ b end. ok (a, b) end) ≡ (leaves_of A m >>= λ ls st. after ls (leaves_of B (f st)))
  then_leaves A B (ok a st) f = go (f st)
    where
      go : (g : Outcome S (Value B)) → leaves_of (A then B) (g >>= λ b end. ok (a, b) end) ≡ after (leaves A a) (leaves_of B g)
      go (ok b end) = refl
      go (refuse n p) = refl
  then_leaves A B (refuse n p) f = refl

  case_leaves : (srt : Sort) (A : Layout) (j : ℕ → Verdict) (B : ℕ → Layout) (p b : ℕ) (m : Outcome S (Value A)) (f : S → Outcome S (Value (B b)))
      → leaves_of (case srt A j B) (m >>= λ a st. judged (j b) p (f st >>= λ c end. ok (b, a, c) end))
      ≡ (leaves_of A m >>= λ ls st. judged (j b) p (after (plain srt b ∷ ls) (leaves_of (B b) (f st))))
  case_leaves srt A j B p b (ok a st) f = go (j b) (f st)
    where
      go : (v : Verdict) (g : Outcome S (Value (B b))) → leaves_of (case srt A j B) (judged v p (g >>= λ c end. ok (b, a, c) end)) ≡ judged v p (after (plain srt b ∷ leaves A a) (leaves_of (B b) g))
      go fine (ok c end) = refl
      go fine (refuse n q) = refl
      go (wrong f) g = refl
  case_leaves srt A j B p b (refuse n q) f = refl

module _ (S : Source) where
  pub at_nothing : (st : S.Position) → leaves_at S nothing st ≡ ok [] st
  unfolding walk
  at_nothing st = refl

  pub at_one : (srt : Sort) (st : S.Position) → leaves_at S (one srt) st ≡ (S.take_plain srt st >>= λ n end. ok (plain srt n ∷ []) end)
  unfolding walk
  at_one srt st = refl

  pub at_text : (st : S.Position) → leaves_at S text st ≡ (S.take_text st >>= λ t end. ok (string t ∷ []) end)
  unfolding walk
  at_text st = refl

  pub at_then : (A B : Layout) (st : S.Position) → leaves_at S (A then B) st ≡ (leaves_at S A st >>= λ ls k. after ls (leaves_at S B k))
  unfolding walk
  at_then A B st = then_leaves A B (walk S A st) (walk S B)

  pub at_case : (srt : Sort) (A : Layout) (j : ℕ → Verdict) (B : ℕ → Layout) (st : S.Position)
      → leaves_at S (case srt A j B) st ≡ (S.take_plain srt st >>= λ b k. leaves_at S A k >>= λ ls k₂. judged (j b) (S.place st) (after (plain srt b ∷ ls) (leaves_at S (B b) k₂)))
  unfolding walk
  at_case srt A j B st = go (S.take_plain srt st)
    where
      go : (g : Outcome S.Position ℕ) → leaves_of (case srt A j B) (g >>= λ b k. walk S A k >>= λ a k₁. judged (j b) (S.place st) (walk S (B b) k₁ >>= λ c end. ok (b, a, c) end))
          ≡ (g >>= λ b k. leaves_at S A k >>= λ ls k₂. judged (j b) (S.place st) (after (plain srt b ∷ ls) (leaves_at S (B b) k₂)))
      go (ok b k) = case_leaves srt A j B (S.place st) b (walk S A k) (walk S (B b))
      go (refuse n p) = refl

  pub at_check : (A : Layout) (j : List ℕ → Verdict) (st : S.Position) → leaves_at S (check A j) st ≡ (leaves_at S A st >>= λ ls k. judged (j (values_of ls)) (S.place st) (ok ls k))
  unfolding walk
  at_check A j st = go (walk S A st)
    where
      verdict : (v : Verdict) (a : Value A) (k : S.Position) → leaves_of (check A j) (judged v (S.place st) (ok a k)) ≡ judged v (S.place st) (ok (leaves A a) k)
      verdict fine a k = refl
      verdict (wrong f) a k = refl

      go : (g : Outcome S.Position (Value A)) → leaves_of (check A j) (g >>= λ a k. judged (j (values_of (leaves A a))) (S.place st) (ok a k)) ≡ (leaves_of A g >>= λ ls k. judged (j (values_of ls)) (S.place st) (ok ls k))
      go (ok a k) = verdict (j (values_of (leaves A a))) a k
      go (refuse n p) = refl

-- From bytes
pub read_nothing : (s : List ℕ) (at : ℕ) → read nothing s at ≡ ok [] at
unfolding read read_value
read_nothing s at = at_nothing (in_bytes s) at

pub read_text_lem : (s : List ℕ) (at : ℕ) → read text s at ≡ (text_at s at >>= λ t end. ok (string t ∷ []) end)
unfolding read read_value
read_text_lem s at = at_text (in_bytes s) at

pub read_case : (srt : Sort) (A : Layout) (j : ℕ → Verdict) (B : ℕ → Layout) (s : List ℕ) (at : ℕ)
    → read (case srt A j B) s at ≡ (plain_at s srt at >>= λ b k. read A s k >>= λ ls k₂. judged (j b) at (after (plain srt b ∷ ls) (read (B b) s k₂)))
unfolding read read_value
read_case srt A j B s at = at_case (in_bytes s) srt A j B at

pub read_check : (A : Layout) (j : List ℕ → Verdict) (s : List ℕ) (at : ℕ) → read (check A j) s at ≡ (read A s at >>= λ ls k. judged (j (values_of ls)) at (ok ls k))
unfolding read read_value
read_check A j s at = at_check (in_bytes s) A j at
