-- The codes of the states, and one iteration of a walk's loop.
use Rattle.std.proofs.Common.{◌≡◌, ℕ, ◌+◌, ◌/◌, ◌%◌, ◌^◌, ◌<◌, true, false, not, eqb, ltb, List, [], ◌∷◌, length, get_or, take, sym, refl, ap, ◌∙◌, add-one, take-suc, ltb-true}
use mathlib.Core.List.{foldl, foldl-append}
use lib.Seq.{take-length}
use Rattle.text.specs.Walk.{State, start, tail_1, tail_2, tail_3, after_e0, after_ed, after_f0, after_f4, failed, step, wanted_after, accepting}
use Rattle.text.specs.Private.{code, Encodes, Follows}
use denote.Enum.Bare.{sameb}
use Rattle.text.specs.contracts.State.{the_type}
use Rattle.text.specs.declared.State as declared
use Rattle.text.specs.declared.State.TheVariants.{Start, One, Two, Three, AfterE0, AfterED, AfterF0, AfterF4, Wrong}
use Rattle.text.specs.States.{state_of}

-- The states in the order of their codes
abbrev pub numbered : ℕ → State
numbered n = get_or (start ∷ tail_1 ∷ tail_2 ∷ tail_3 ∷ after_e0 ∷ after_ed ∷ after_f0 ∷ after_f4 ∷ failed ∷ []) n failed

-- A code is six times the state's number, and is 0 only for start
codes : (q : State) → (numbered (code q / 6) ≡ q) × (ltb (code q / 6) 9 ≡ true) × (eqb (code q) 0 ≡ accepting q)
codes start = (refl, refl, refl)
codes tail_1 = (refl, refl, refl)
codes tail_2 = (refl, refl, refl)
codes tail_3 = (refl, refl, refl)
codes after_e0 = (refl, refl, refl)
codes after_ed = (refl, refl, refl)
codes after_f0 = (refl, refl, refl)
codes after_f4 = (refl, refl, refl)
codes failed = (refl, refl, refl)

pub numbered_code : (q : State) → numbered (code q / 6) ≡ q
numbered_code q = (codes q).0

pub number_low : (q : State) → code q / 6 < 9
number_low q = ltb-true (code q / 6) 9 (codes q).1

pub code_accepting : (q : State) → eqb (code q) 0 ≡ accepting q
code_accepting q = (codes q).2

pub code_injective : (p q : State) → code p ≡ code q → p ≡ q
code_injective p q e = sym (numbered_code p) ∙ ap (λ (n : ℕ). numbered (n / 6)) e ∙ numbered_code q

-- One more byte, for whatever is folded over the bytes
pub fold_snoc : {A : Type 0} (f : A → ℕ → A) (a : A) (s : List ℕ) (i : ℕ) → i < length s → foldl f a (take (i + 1) s) ≡ f (foldl f a (take i s)) (get_or s i 0)
fold_snoc f a s i h = rw (add-one, take-suc s i 0, foldl-append)

-- The walk over one more byte
pub run_snoc : (p : State) (s : List ℕ) (i : ℕ) → i < length s → wanted_after p (take (i + 1) s) ≡ step (wanted_after p (take i s)) (get_or s i 0)
run_snoc p s i h = fold_snoc step p s i h

-- The row of the byte's class, shifted to the place of the state, begins with the next state
pub turn : {classes rows : List ℕ} → Encodes classes rows → (x b : ℕ) → b < 256 → Follows x b (get_or rows (get_or classes b 0) 0 / 2 ^ (x % 64))
turn d x b h p e = rw e (d.right p b h)

-- One iteration
pub walked : (p : State) (s : List ℕ) (i x r : ℕ) → i < length s → Follows x (get_or s i 0) r
    → x % 64 ≡ code (wanted_after p (take i s)) → r % 64 ≡ code (wanted_after p (take (i + 1) s))
walked p s i x r h f e = rw (run_snoc p s i h) (f (wanted_after p (take i s)) e)

pub ended : (p : State) (s : List ℕ) (i x : ℕ) → i ≡ length s → x % 64 ≡ code (wanted_after p (take i s)) → x % 64 ≡ code (wanted_after p s)
ended p s i x e h = rw (e, take-length s) at h

-- The test for the state Start
pub is_start : (q : declared.State) → sameb the_type q Start ≡ accepting (state_of q)
is_start Start = refl
is_start One = refl
is_start Two = refl
is_start Three = refl
is_start AfterE0 = refl
is_start AfterED = refl
is_start AfterF0 = refl
is_start AfterF4 = refl
is_start Wrong = refl

pub at_start : (q : declared.State) → false ≡ not (sameb the_type q Start) → code (state_of q) ≡ 0
at_start Start e = refl
at_start One e = cc
at_start Two e = cc
at_start Three e = cc
at_start AfterE0 e = cc
at_start AfterED e = cc
at_start AfterF0 e = cc
at_start AfterF4 e = cc
at_start Wrong e = cc
