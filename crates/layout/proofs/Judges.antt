-- The numbers of a bad read: 5 to 7, and those of the faults that the judges of its layout find.
use Prim.Native.Nat.{ℕ, ◌≤◌}
use native.Mathlib.Omega.{arith}
use mathlib.Core.List.{List}
use mathlib.Core.Path.{◌≡◌}
use Rattle.layout.specs.Layout.{Fault, unknown_kind, unknown_tag, other_mapping, error_result, refusal_of, wrong, Layout, nothing, one, text, ◌then◌, case, check}
use Rattle.layout.specs.BadReads.{BadRead, number_cut, length_cut, text_cut, not_flag, text_not_utf8, first, second, before, bad_leaf, branch, inside, bad_part, BadPayload, bad_read, bytes_remain}
use Rattle.layout.specs.Theorems.{BadReadNumbered}
use Rattle.layout.specs.Alone.{RefusalAlone, too_long, bad_payload}

-- The number of every fault that the judges of a layout find satisfies N
abbrev pub Judged : (N : ℕ → Type 0) → Layout → Type 0
Judged N nothing = Unit {0}
Judged N (one srt) = Unit {0}
Judged N text = Unit {0}
Judged N (A then B) = Judged N A × Judged N B
Judged N (case srt A j B) = Judged N A × ((n : ℕ) (f : Fault) → j n ≡ wrong f → N (refusal_of f)) × ((n : ℕ) → Judged N (B n))
Judged N (check A j) = Judged N A × ((ns : List ℕ) (f : Fault) → j ns ≡ wrong f → N (refusal_of f))

-- The numbers of the reads satisfy N
pub record Reads (N : ℕ → Type 0) : Type 0 where
  pub five : N 5
  pub six : N 6
  pub seven : N 7

module _ (N : ℕ → Type 0) (k : Reads N) where
  pub read_numbered : {s : List ℕ} {L : Layout} {at n p : ℕ} → Judged N L → BadRead s L at n p → N n
  read_numbered j (number_cut h) = k.five
  read_numbered j (length_cut h) = k.five
  read_numbered j (text_cut h i) = k.five
  read_numbered j (not_flag h i) = k.six
  read_numbered j (text_not_utf8 t h d q) = k.seven
  read_numbered j (first b) = read_numbered j.0 b
  read_numbered j (second h b) = read_numbered j.1 b
  read_numbered j (before b) = read_numbered (tt, j.0) b
  read_numbered j (bad_leaf {b} {f} h e) = j.1 b f e
  read_numbered j (branch {b} h e r) = read_numbered (j.2 b) r
  read_numbered j (inside b) = read_numbered j.0 b
  read_numbered j (bad_part {A} {a} {f} h e) = j.1 _ f e

  -- If the number of every fault satisfies N
  pub judged : ((f : Fault) → N (refusal_of f)) → (L : Layout) → Judged N L
  judged h nothing = tt
  judged h (one srt) = tt
  judged h text = tt
  judged h (A then B) = (judged h A, judged h B)
  judged h (case srt A j B) = (judged h A, λ n f e. h f, λ n. judged h (B n))
  judged h (check A j) = (judged h A, λ ns f e. h f)

abbrev Upto : ℕ → Type 0
Upto n = (5 ≤ n) × (n ≤ 11)

fault_upto : (f : Fault) → Upto (refusal_of f)
fault_upto unknown_kind = omega arith
fault_upto unknown_tag = omega arith
fault_upto other_mapping = omega arith
fault_upto error_result = omega arith

upto : Reads Upto
upto = record { five = omega arith; six = omega arith; seven = omega arith }

pub bad_read_numbered : BadReadNumbered
bad_read_numbered L s at n p b = read_numbered Upto upto (judged Upto upto fault_upto L) b

-- For every layout, 5 to 12
pub payload_upto : {s : List ℕ} (L : Layout) {at n p : ℕ} → BadPayload s L at n p → (5 ≤ n) × (n ≤ 12)
payload_upto L (bad_read b) = let (a, c) = bad_read_numbered L _ _ _ _ b in (a, omega arith)
payload_upto L (bytes_remain h l) = omega arith

pub alone_numbered : (L : Layout) (s : List ℕ) (n p : ℕ) → RefusalAlone L s n p → (1 ≤ n) × (n ≤ 12)
alone_numbered L s n p (too_long h) = omega arith
alone_numbered L s n p (bad_payload h b) = let (a, c) = payload_upto L b in (omega arith, c)
