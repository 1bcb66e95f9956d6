-- The lent list with the records, and the result of the reading with a directory.
use Prim.Native.Nat.{ℕ, zero, suc, ◌-◌, ◌*◌, ◌≤◌, ◌<◌}
use native.Mathlib.Nat.{le_of_lt}
use native.Mathlib.Numerals.{add-one}
use native.Mathlib.Omega.{arith}
use mathlib.Core.Bool.{Bool, true, false, cond}
use mathlib.Core.List.{List, [], ◌∷◌, ◌++◌, append_assoc}
use mathlib.Core.Path.{◌≡◌, refl, sym, ap, ◌∙◌}
use lib.Dec.{leb}
use lib.ListN.{length, get_or, set, take, drop, replicate}
use lib.Seq.{drop-cons, set_at, take-suc, take-length, length-take-le}
use borrow.Author.Tests.{leb-true, le-leb, lt-leb}
use Rattle.layout.specs.Written.{row_width}
use Rattle.layout.specs.Reading.{Outcome, ok, refuse}
use Rattle.layout.specs.Answers.{Result, accepted, whole_rows, acceptance, refusal}
use Rattle.layout.specs.Theorems.{Bytes}
use Rattle.layout.proofs.Walk.{all_ok}
use Rattle.layout.proofs.Alone.{never_accepts}
use Rattle.table.specs.Answers.{answer_of, result_of}
use Rattle.std.specs.Prelude as prelude
use Rattle.std.specs.Prelude.{Ok, Err}
use Rattle.table.specs.declared.Counts.{Counts}
use Rattle.table.specs.declared.Refusal.{Refusal}
use Rattle.section.specs.Derivation.{Placed, total_leaves, given_of}
use Rattle.section.specs.Section.{read_section, reading}
use Rattle.section.proofs.Section.{section_sound}
use Rattle.directory.specs.declared.Record.{Record}
use Rattle.directory.specs.Directory.{records_from, directory_of, fitted, reading_for, list_after, directory, listed_of}
use Rattle.directory.specs.Private.{zeros, record_before, records_put, Ready, entity_count}
use Rattle.directory.proofs.Records.{length_records}
use Rattle.directory.proofs.Ready.{Stored, leads}
use Rattle.layout.specs.Answers as answers

before_is : (r : Record) (rs : List Record) (n : ℕ) → n < length rs → record_before r rs (suc n) ≡ get_or rs n zeros
before_is r [] n h = absurd (omega arith)
before_is r (x ∷ rs) zero h = refl
before_is r (x ∷ rs) (suc n) h = before_is x rs n (omega arith)

-- The records, then the rest of the list unchanged
put_is : (rs : List Record) (n : ℕ) (l : List Record) → n ≤ length rs → n ≤ length l → records_put rs n l ≡ take n rs ++ drop n l
put_is rs zero l h k = refl
put_is rs (suc n) l h k =
    let x : Record = get_or rs n zeros in
    ap (λ (z : Record). set (records_put rs n l) n z) (before_is zeros rs n h)
    ∙ ap (λ (t : List Record). set t n x) (put_is rs n l (le_of_lt h) (le_of_lt k) ∙ ap (λ (t : List Record). take n rs ++ t) (drop-cons l n x k))
    ∙ set_at (take n rs) (get_or l n x) (drop (suc n) l) x n (length-take-le n rs (le_of_lt h))
    ∙ sym (ap (λ (t : List Record). t ++ drop (suc n) l) (take-suc rs n zeros h) ∙ append_assoc (take n rs) (x ∷ []) (drop (suc n) l))

put_all : (rs l : List Record) → length rs ≤ length l → records_put rs (length rs) l ≡ rs ++ drop (length rs) l
put_all rs l h = put_is rs (length rs) l (omega arith) h ∙ ap (λ (x : List Record). x ++ drop (length rs) l) (take-length rs)

-- What the reading gives, with room for so many records
data Comes (s table : List ℕ) (room : ℕ) : Result → Type 0 where
  turned : {x : Result} (n p : ℕ) → x.answer ≡ answers.refused n p → Comes s table room x
  given : (es : List Placed) (end : ℕ) → read_section s ≡ ok es end → length es ≤ room → Comes s table room (acceptance (given_of es) table)

comes : (s table : List ℕ) (room : ℕ) → Comes s table room (reading_for s table room)
unfolding reading_for reading
comes s table room = go (read_section s) refl
  where
    none : leb 0 room ≡ true
    none = le-leb 0 room (omega arith)

    fits : (es : List Placed) (end : ℕ) → read_section s ≡ ok es end → (b : Bool) → leb (length es) room ≡ b → Comes s table room (cond b (acceptance (given_of es) table) (refusal 21 0 (acceptance (given_of es) table).table))
    fits es end k true e = given es end k (leb-true (length es) room e)
    fits es end k false e = turned 21 0 refl

    told : (es : List Placed) (end : ℕ) → read_section s ≡ ok es end → (b : Bool) → Comes s table room (fitted room (cond b (acceptance (given_of es) table) (refusal 13 0 table)))
    told es end k true = fits es end k (leb (length es) room) refl
    told es end k false = rw none (turned 13 0 refl)

    go : (m : Outcome ℕ (List Placed)) → read_section s ≡ m → Comes s table room (reading_for s table room)
    go (refuse n p) k = turned {x = reading_for s table room} n p (rw (k, none))
    go (ok es end) k = rw k (told es end k (leb (total_leaves es) (whole_rows table)))

none_ready : (s : List ℕ) → Bytes s → (t : List ℕ) (room : ℕ) → Ready s t 0 room
none_ready s u t room = record { bytes = u; fits = omega arith; between = λ i h. absurd (omega arith); next = λ i h x a. absurd (omega arith) }

all_ready : (s : List ℕ) → Bytes s → (t : List ℕ) (m room : ℕ) (es : List Placed) (end : ℕ) → read_section s ≡ ok es end → length es ≤ room → t ≡ (given_of es).rows ++ replicate m 0 → Ready s t (length es) room
unfolding directory_of
all_ready s u t m room es end k h e =
    let (d, g, q) = all_ok (section_sound s u) k in
    let w : Stored s t 0 0 d.items = record { small = g.small; inside = omega arith; padding = d.padding; proper = g.by.proper; derives = g.by.derives; few = omega arith; zeros = m; rows = rw q at e } in
    rw q
    (record {
      bytes = u;
      fits = rw q at h;
      between = λ i j. rw (k, q) (leads d.items w zeros refl i j).between;
      next = λ i j x a. rw (k, q, add-one i) ((leads d.items w zeros refl i j).to x (rw (k, q) at a));
    })

-- An acceptance is not a refusal
not_both : {entities rows n p : ℕ} → accepted entities rows ≡ answers.refused n p → ⊥
not_both e = never_accepts e

module _ (s : List ℕ) (u : Bytes s) (table : List ℕ) (room : ℕ) (t : List ℕ) where
  pub ready : (r : prelude.Result Counts Refusal) → result_of r t ≡ reading_for s table room → Ready s t (entity_count r) room
  ready r e = go r (reading_for s table room) (comes s table room) e
    where
      go : (r : prelude.Result Counts Refusal) (x : Result) → Comes s table room x → result_of r t ≡ x → Ready s t (entity_count r) room
      go (Err refusal) x c e = none_ready s u t room
      go (Ok counts) x (turned n p q) e = absurd (not_both (ap (λ (y : Result). y.answer) e ∙ q))
      go (Ok counts) x (given es end k h) e =
          let n : counts.entities ≡ length es = ap (λ (y : Result). y.answer.entities) e in
          rw n (all_ready s u t (length table - row_width * total_leaves es) room es end k h (ap (λ (y : Result). y.table) e))

-- The list with the records is the directory's
pub listed : (s table : List ℕ) (list : List Record) (t : List ℕ) (r : prelude.Result Counts Refusal) → result_of r t ≡ reading_for s table (length list) → (l : List Record) → l ≡ records_put (directory_of s) (entity_count r) list → listed_of r t l ≡ directory s table list
unfolding directory directory_of
listed s table list t r e l f =
    let q : l ≡ list_after (reading_for s table (length list)) (directory_of s) list = f ∙ go r (reading_for s table (length list)) (comes s table (length list)) e in
    λ i. record { result = e i; list = q i }
  where
    go : (r : prelude.Result Counts Refusal) (x : Result) → Comes s table (length list) x → result_of r t ≡ x → records_put (directory_of s) (entity_count r) list ≡ list_after x (directory_of s) list
    go (Err refusal) x (turned n p q) e = rw q
    go (Err refusal) x (given es end k h) e = absurd (not_both (sym (ap (λ (y : Result). y.answer) e)))
    go (Ok counts) x (turned n p q) e = absurd (not_both (ap (λ (y : Result). y.answer) e ∙ q))
    go (Ok counts) x (given es end k h) e =
        let rs : List Record = records_from 0 es in
        let n : counts.entities ≡ length rs = ap (λ (y : Result). y.answer.entities) e ∙ sym (length_records 0 es) in
        rw (k, n) (put_all rs list (omega (arith, h, length_records 0 es)))

counted : (r : prelude.Result Counts Refusal) → (answer_of r).entities ≡ entity_count r
counted (Ok counts) = refl
counted (Err refusal) = refl

-- From the answer r of the plain reading, with room for so many records
module _ (s table after : List ℕ) (room : ℕ) (r : prelude.Result Counts Refusal) (e : result_of r after ≡ reading s table) where
  pub room_enough : entity_count r ≤ room → result_of r after ≡ reading_for s table room
  unfolding reading_for
  room_enough h = rw (← e, le-leb (answer_of r).entities room (omega (arith, h, counted r)))

  pub room_short : room < entity_count r → (x : Result) → x ≡ refusal 21 0 after → x ≡ reading_for s table room
  unfolding reading_for
  room_short h x f = f ∙ sym (rw (← e, lt-leb (answer_of r).entities room (omega (arith, h, counted r))))
