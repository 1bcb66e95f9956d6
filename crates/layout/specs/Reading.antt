-- Reading a layout from bytes, with the refusals 5 to 11 (docs/FORMAT.md, Refusals): the first bad read is refused.
use Rattle.std.specs.Prelude.{ℕ, ◌+◌, ◌*◌, Bool, true, false, List, ltb, leb, length, get_or, take, drop}
use Rattle.layout.specs.Layout.{Sort, Kind, Tag, Flag, Number, Count, Leaf, Verdict, fine, wrong, refusal_of, Layout, nothing, one, text, ◌then◌, case, check, Value, leaves, values_of}
use Rattle.text.specs.Walk as automaton

-- The outcome of a read: a value and the state after it, or a refusal's number and place
pub data Outcome (S A : Type 0) : Type 0 where
  ok : A → S → Outcome S A
  refuse : (number place : ℕ) → Outcome S A

module _ {S A : Type 0} where
  infixl 20 ◌>>=◌
  -- The next read, unless this one is refused
  abbrev pub ◌>>=◌ : {B : Type 0} → Outcome S A → (A → S → Outcome S B) → Outcome S B
  ok a st >>= next = next a st
  refuse n p >>= next = refuse n p

  -- The rest if the test passes, else a refusal
  abbrev pub need : Bool → (number place : ℕ) → Outcome S A → Outcome S A
  need true n p rest = rest
  need false n p rest = refuse n p

  -- The rest if the verdict is fine, else its refusal at a place
  abbrev pub judged : Verdict → (place : ℕ) → Outcome S A → Outcome S A
  judged fine p rest = rest
  judged (wrong f) p rest = refuse (refusal_of f) p

-- What leaves are read from: a read for each sort of leaf, and the place of a position
pub record Source : Type 1 where
  pub Position : Type 0
  pub take_plain : Sort → Position → Outcome Position ℕ
  pub take_text : Position → Outcome Position (List ℕ)
  pub place : Position → ℕ

-- The reading of a layout from any source
unfoldable pub walk : (S : Source) (L : Layout) → S.Position → Outcome S.Position (Value L)
walk S nothing st = ok tt st
walk S (one srt) st = S.take_plain srt st
walk S text st = S.take_text st
walk S (A then B) st =
    walk S A st >>= λ a st₁.
    walk S B st₁ >>= λ b st₂. ok (a, b) st₂
walk S (case srt A j B) st =
    S.take_plain srt st >>= λ n st₁.
    walk S A st₁ >>= λ a st₂.
    judged (j n) (S.place st)
    (walk S (B n) st₂ >>= λ b st₃. ok (n, a, b) st₃)
walk S (check A j) st = walk S A st >>= λ a st₁. judged (j (values_of (leaves A a))) (S.place st) (ok a st₁)

-- The leaves of a layout that are read from any source
abbrev pub leaves_at : (S : Source) (L : Layout) → S.Position → Outcome S.Position (List Leaf)
leaves_at S L st = walk S L st >>= λ v end. ok (leaves L v) end

-- A text is valid UTF-8 (RFC 3629)
unfoldable pub utf8 : List ℕ → Bool
utf8 t = automaton.utf8 t

-- 5: n bytes are left at a place
abbrev pub enough : List ℕ → (place n : ℕ) → Bool
enough s at n = leb (at + n) (length s)

-- The four bytes at a place as a number, little-endian
abbrev pub number_at : List ℕ → ℕ → ℕ
number_at s at = get_or s at 0 + 256 * get_or s (at + 1) 0 + 65536 * get_or s (at + 2) 0 + 16777216 * get_or s (at + 3) 0

-- A byte
abbrev pub byte_at : List ℕ → ℕ → Outcome ℕ ℕ
byte_at s at = need (enough s at 1) 5 at (ok (get_or s at 0) (at + 1))

-- 6: a flag is 0 or 1
abbrev pub flag_at : List ℕ → ℕ → Outcome ℕ ℕ
flag_at s at = need (enough s at 1) 5 at (need (ltb (get_or s at 0) 2) 6 at (ok (get_or s at 0) (at + 1)))

-- Four bytes
abbrev pub four_at : List ℕ → ℕ → Outcome ℕ ℕ
four_at s at = need (enough s at 4) 5 at (ok (number_at s at) (at + 4))

-- The read of a leaf that holds a number, by its sort
abbrev pub plain_at : List ℕ → Sort → ℕ → Outcome ℕ ℕ
plain_at s Kind at = byte_at s at
plain_at s Tag at = byte_at s at
plain_at s Flag at = flag_at s at
plain_at s Number at = four_at s at
plain_at s Count at = four_at s at

-- A text of n bytes, after its length: 5 there if it is too long, then 7
abbrev pub body_at : List ℕ → (n place : ℕ) → Outcome ℕ (List ℕ)
body_at s n at = need (enough s at n) 5 at (need (utf8 (take n (drop at s))) 7 at (ok (take n (drop at s)) (at + n)))

-- The read of a text: its length, then that many bytes
abbrev pub text_at : List ℕ → ℕ → Outcome ℕ (List ℕ)
text_at s at = four_at s at >>= λ n at₁. body_at s n at₁

-- The bytes up to the payload's end, as a source: its positions are places
abbrev pub in_bytes : List ℕ → Source
in_bytes s = record { Position = ℕ; take_plain = plain_at s; take_text = text_at s; place = λ at. at }

-- The value of a layout at a place of s, and where it ends
unfoldable pub read_value : (L : Layout) → List ℕ → ℕ → Outcome ℕ (Value L)
read_value L s at = walk (in_bytes s) L at

-- The reading of a layout at a place of s, where s ends with the payload: its leaves and where they end, or a refusal
unfoldable pub read : Layout → List ℕ → ℕ → Outcome ℕ (List Leaf)
read L s at = read_value L s at >>= λ v end. ok (leaves L v) end
