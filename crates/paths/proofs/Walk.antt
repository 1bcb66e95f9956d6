-- The rest of a section from a boundary on, entry after entry.
use Prim.Native.Nat.{ℕ, ◌+◌, ◌*◌, ◌/◌, ◌%◌, ◌≤◌, ◌<◌}
use native.Mathlib.Omega.{arith}
use mathlib.Core.Bool.{Bool, true, false, cond}
use mathlib.Core.List.{List, [], ◌∷◌, ◌++◌}
use mathlib.Core.Path.{◌≡◌, refl, sym, ap, ◌∙◌}
use lib.ListN.{length, get_or}
use Rattle.layout.specs.Answers.{limit}
use Rattle.std.specs.Prelude.{Option, Some, None, MatchOption}
use Rattle.raw_bytes.specs.Bytes.{number_or0, same}
use Rattle.section.specs.Derivation.{Item, sentinel, entity, Derivation, payload, placed}
use Rattle.section.specs.Rest.{Rest}
use Rattle.section.proofs.Rest.{rest_unique, rest_first, rest_none}
use Rattle.runs.specs.Runs.{kind_and_text, equals, pairs}
use Rattle.paths.specs.Paths.{kinds_and_paths}
use Rattle.paths.specs.Private.{path_place, path_at, paths_of, PayloadIn, pairs_with, Counts, Equals, NoneLeft, First}
use Rattle.paths.proofs.Fields.{item_path, found_item}

-- The kinds and texts of the rest are those of its one derivation
pub paths_unique : {s : List ℕ} {at : ℕ} (w x : Rest s at) → paths_of w ≡ paths_of x
paths_unique {s} {at} w x = ap (λ (d : Derivation). kinds_and_paths (placed at d.items)) (rest_unique w x)

pub item_paths : (at : ℕ) (i : Item) (is : List Item) → kinds_and_paths (placed at (i ∷ is)) ≡ item_path i ++ kinds_and_paths (placed (at + 4 + length (payload i)) is)
item_paths at sentinel is = refl
item_paths at (entity v) is = refl

module _ {s : List ℕ} {at : ℕ} (w : Rest s at) where
  pub rest_step : (size : ℕ) → size ≡ number_or0 s at → (size ≡ 0 → ⊥) → PayloadIn s (at + 4) × First s at (path_at s (at + 4)) (at + 4 + size)
  rest_step size l n =
      let x = rest_first w size l n in
      let f = found_item x.item x.proper s (at + 4) x.after w.small x.there in (
        f.inside,
        record {
          rest = x.rest;
          on = omega arith;
          are = λ v. paths_unique v w
              ∙ ap (λ (is : List Item). kinds_and_paths (placed at is)) x.items ∙ item_paths at x.item x.others
              ∙ ap (λ (us : List (List ℕ)). item_path x.item ++ us)
              (ap (λ (n : ℕ). kinds_and_paths (placed (at + 4 + n) x.others)) (sym x.sized) ∙ ap (λ (is : List Item). kinds_and_paths (placed (at + 4 + size) is)) (sym x.left))
              ∙ ap (λ (ts : List (List ℕ)). ts ++ paths_of x.rest) (sym f.path);
        },
      )

  pub rest_end : number_or0 s at ≡ 0 → NoneLeft s at
  rest_end z v = ap (λ (is : List Item). kinds_and_paths (placed at is)) (rest_none v z)

-- What a payload stands for, and the text of a mark of its kind and its place
module _ (s : List ℕ) (at place : ℕ) (e : Some place ≡ path_place s at) where
  place_small : PayloadIn s at → place + 4 ≤ limit
  place_small h = let i : place + 4 ≤ length s = rw (← e) at h.path in omega (arith, i, h.small)

  path_marked : (kind mark : ℕ) → kind ≡ get_or s at 0 → kind < 256 → mark ≡ 256 * place + kind → path_at s at ≡ kind_and_text s mark ∷ []
  unfolding path_at
  path_marked kind mark k h m =
      let x : mark % 256 ≡ kind = omega arith in
      let y : mark / 256 ≡ place = omega arith in
      rw (← e, ← k, x, y)

-- Whether a kind and a place fit into a mark
pub mark_there : (s : List ℕ) (at place kind : ℕ) → Some place ≡ path_place s at → PayloadIn s at → kind ≡ get_or s at 0 → kind < 256 → (mark : Option ℕ)
    → MatchOption mark (limit ≤ place) (λ m. m ≡ 256 * place + kind) → MatchOption mark (path_at s at ≡ []) (λ m. path_at s at ≡ kind_and_text s m ∷ [])
mark_there s at place kind e p k h None m = absurd (omega (arith, place_small s at place e p))
mark_there s at place kind e p k h (Some mark) m = path_marked s at place e kind mark k h m

pub path_none : (s : List ℕ) (at : ℕ) → None ≡ path_place s at → path_at s at ≡ []
unfolding path_at
path_none s at e = rw (← e)

-- The pairs of one mark with those of an entry, and of the entries after it
pub equals_append : (t : List ℕ) (us vs : List (List ℕ)) → equals t (us ++ vs) ≡ equals t us + equals t vs
equals_append t [] vs = omega arith
equals_append t (u ∷ us) vs = rw (equals_append t us vs) (omega arith)

-- The entries between two boundaries have no full_path
pub record Passed (s : List ℕ) (at later : ℕ) : Type 0 where
  pub rest : Rest s later
  pub on : at ≤ later
  pub are : (w : Rest s at) → paths_of w ≡ paths_of rest

pub passed_none : {s : List ℕ} {at : ℕ} → Rest s at → Passed s at at
passed_none w = record { rest = w; on = omega arith; are = λ x. paths_unique x w }

module _ {s : List ℕ} {at later : ℕ} (p : Passed s at later) where
  pub passed_on : {ts : List (List ℕ)} {next : ℕ} → ts ≡ [] → First s later ts next → Passed s at next
  passed_on e f = record { rest = f.rest; on = omega (arith, p.on, f.on); are = λ w. p.are w ∙ f.are p.rest ∙ rw e }

  pub passed_first : {ts us : List (List ℕ)} {next : ℕ} → ts ≡ us → First s later ts next → First s at us next
  passed_first e f = record { rest = f.rest; on = omega (arith, p.on, f.on); are = λ w. p.are w ∙ f.are p.rest ∙ rw e }

  pub passed_all : NoneLeft s later → NoneLeft s at
  passed_all n w = p.are w ∙ n p.rest

-- A mark is the same as `count` of those from `begin` to a boundary
pub record Later (s : List ℕ) (begin mark at count : ℕ) : Type 0 where
  pub rest : Rest s at
  pub bound : count ≤ at
  pub sum : (w : Rest s begin) → equals (kind_and_text s mark) (paths_of w) ≡ count + equals (kind_and_text s mark) (paths_of rest)

pub later_holds : {s : List ℕ} {begin : ℕ} (mark : ℕ) → Rest s begin → Later s begin mark begin 0
later_holds {s} {begin} mark w = record { rest = w; bound = omega arith; sum = λ x. omega (arith, ap (equals (kind_and_text s mark)) (paths_unique x w)) }

one_at_most : (b : Bool) → cond b 1 0 ≤ 1
one_at_most true = omega arith
one_at_most false = omega arith

module _ {s : List ℕ} {begin mark at count : ℕ} (l : Later s begin mark at count) where
  pub later_on : (other next : ℕ) → First s at (kind_and_text s other ∷ []) next → (b : Bool) → b ≡ same (kind_and_text s mark) (kind_and_text s other) → Later s begin mark next (count + cond b 1 0)
  later_on other next f b e = record {
    rest = f.rest;
    bound = omega (arith, l.bound, f.on, one_at_most b);
    sum = λ w. l.sum w ∙ rw (f.are l.rest, ← e) (omega arith);
  }

  pub later_ends : NoneLeft s at → Equals s mark begin count
  later_ends n = record {
    small = omega (arith, l.bound, l.rest.inside, l.rest.small);
    counts = λ w. omega (arith, l.sum w, ap (equals (kind_and_text s mark)) (n l.rest));
  }

-- The texts before a boundary make `count` pairs with those after them
pub record Before (s : List ℕ) (at count : ℕ) : Type 0 where
  pub rest : Rest s at
  pub bound : count ≤ limit * at
  pub sum : (w : Rest s 0) → pairs (paths_of w) ≡ count + pairs (paths_of rest)

pub before_holds : {s : List ℕ} → Rest s 0 → Before s 0 0
before_holds w = record { rest = w; bound = omega arith; sum = λ x. omega (arith, ap pairs (paths_unique x w)) }

-- The pairs of some lists, with one in front of them or none
pub front_pairs : (us vs : List (List ℕ)) → length us ≤ 1 → pairs (us ++ vs) ≡ pairs_with us vs + pairs vs
front_pairs [] vs h = omega arith
front_pairs (u ∷ []) vs h = omega arith
front_pairs (u ∷ (v ∷ us)) vs h = absurd (omega arith)

module _ {s : List ℕ} {at count : ℕ} (l : Before s at count) where
  pub before_on : (mark next more : ℕ) → First s at (kind_and_text s mark ∷ []) next → Equals s mark next more → Before s next (count + more)
  before_on mark next more f h = record {
    rest = f.rest;
    bound = omega (arith, l.bound, h.small, f.on);
    sum = λ w. l.sum w ∙ rw (f.are l.rest) (omega (arith, h.counts f.rest));
  }

  pub before_ends : NoneLeft s at → Counts s 0 count
  before_ends n w = omega (arith, l.sum w, ap pairs (n l.rest))
