-- The reading with a directory meets its contract, and nothing else does.
use Prim.Native.Nat.{ℕ, ◌+◌, ◌-◌, ◌*◌, ◌≤◌, ◌<◌}
use native.Mathlib.Omega.{arith}
use mathlib.Core.Bool.{Bool, true, false}
use mathlib.Core.List.{List, [], ◌∷◌, ◌++◌}
use mathlib.Core.Path.{◌≡◌, refl, sym, ap, ◌∙◌}
use lib.Dec.{leb, ltb}
use lib.ListN.{length, get_or, drop, replicate, length-append, length-drop, length-replicate, get_or-append}
use lib.Seq.{ext_get_or, get_or-append-add, get_or-drop}
use borrow.Author.Tests.{leb-true, leb-false, ltb-true, ltb-false, le-leb, lt-leb, ne_eqb}
use Rattle.layout.specs.Written.{row_width, rows_from}
use Rattle.layout.specs.Reading.{Outcome, ok, refuse}
use Rattle.layout.specs.Answers.{refused, Accepts, whole_rows, acceptance}
use Rattle.layout.specs.Theorems.{Bytes, Told}
use Rattle.layout.proofs.Walk.{all_ok}
use Rattle.layout.proofs.Rows.{rows_length}
use Rattle.section.specs.Derivation.{Placed, total_leaves, rows_of, given_of, Derivation, entities_of}
use Rattle.section.specs.Section.{read_section, reading}
use Rattle.section.specs.Refusals.{SectionRefusal}
use Rattle.section.specs.Demand3.{Good, gives}
use Rattle.section.proofs.Section.{section_complete, section_sound}
use Rattle.section.proofs.Refusals.{refusal_exact}
use Rattle.section.proofs.Demand3.{refusal_numbered, reading_meets}
use Rattle.directory.specs.declared.Record.{Record}
use Rattle.directory.specs.Directory.{records_from, directory_of, reading_for, Listed, directory}
use Rattle.directory.specs.Exact.{ListsEntities, refused_listed, ExactDirectory}
use Rattle.directory.specs.Theorems.{DirectoryExact}
use Rattle.directory.specs.Private.{zeros}
use Rattle.directory.proofs.Records.{length_records, record_with, entity_with, index_below}

-- An acceptance keeps the table's length
length_rows : (es : List Placed) → length (rows_of es) ≡ row_width * total_leaves es
length_rows [] = refl
length_rows (e ∷ es) = omega (arith, length-append (rows_from e.at e.content) (rows_of es), rows_length e.at e.content, length_rows es)

length_accepted : (es : List Placed) (table : List ℕ) → total_leaves es ≤ whole_rows table → length (acceptance (given_of es) table).table ≡ length table
length_accepted es table h = omega (arith, length-append (rows_of es) (replicate (length table - row_width * total_leaves es) 0), length-replicate {A = ℕ} (length table - row_width * total_leaves es) 0, length_rows es)

-- The list after an acceptance
abbrev list_for : Derivation → List Record → List Record
list_for d list = records_from 0 (entities_of d) ++ drop (length (records_from 0 (entities_of d))) list

-- The outcomes, each under its condition
module _ (s table : List ℕ) (list : List Record) where
  module _ (d : Derivation) (g : Good s d) where
    accepted_is : (gives d).leaf_count ≤ whole_rows table → (gives d).entities ≤ length list → directory s table list ≡ record { result = acceptance (gives d) table; list = list_for d list }
    unfolding directory reading_for reading directory_of
    accepted_is h k = rw (section_complete s d g, le-leb (total_leaves (entities_of d)) (whole_rows table) h, le-leb (length (entities_of d)) (length list) k)

    few_records_is : (gives d).leaf_count ≤ whole_rows table → length list < (gives d).entities → directory s table list ≡ refused_listed 21 0 table list
    unfolding directory reading_for reading directory_of
    few_records_is h k = rw (section_complete s d g, le-leb (total_leaves (entities_of d)) (whole_rows table) h, lt-leb (length (entities_of d)) (length list) k)
        (ap (λ (n : ℕ). record { result = record { answer = refused 21 0; table = replicate n 0 }; list = list }) (length_accepted (entities_of d) table h))

    few_rows_is : whole_rows table < (gives d).leaf_count → directory s table list ≡ refused_listed 13 0 table list
    unfolding directory reading_for reading directory_of
    few_rows_is h = rw (section_complete s d g, lt-leb (total_leaves (entities_of d)) (whole_rows table) h, le-leb 0 (length list) (omega arith))

  refused_is : Bytes s → (n p : ℕ) → SectionRefusal s n p → directory s table list ≡ refused_listed n p table list
  unfolding directory reading_for reading directory_of
  refused_is u n p r = rw ((refusal_exact s u n p).1 r, le-leb 0 (length list) (omega arith))

  data Outcomes : Listed → Type 0 where
    accepts : (d : Derivation) → Good s d → (gives d).leaf_count ≤ whole_rows table → (gives d).entities ≤ length list → Outcomes (record { result = acceptance (gives d) table; list = list_for d list })
    few_records : (d : Derivation) → Good s d → (gives d).leaf_count ≤ whole_rows table → length list < (gives d).entities → Outcomes (refused_listed 21 0 table list)
    few_rows : (d : Derivation) → Good s d → whole_rows table < (gives d).leaf_count → Outcomes (refused_listed 13 0 table list)
    refuses : (n p : ℕ) → SectionRefusal s n p → Outcomes (refused_listed n p table list)

  outcome : Bytes s → Outcomes (directory s table list)
  outcome u = go (read_section s) refl
    where
      room : (d : Derivation) → Good s d → (gives d).leaf_count ≤ whole_rows table → (b : Bool) → leb (gives d).entities (length list) ≡ b → Outcomes (directory s table list)
      room d g h true e = let k = leb-true _ _ e in rw (accepted_is d g h k) (accepts d g h k)
      room d g h false e = let k = leb-false _ _ e in rw (few_records_is d g h k) (few_records d g h k)

      rows : (d : Derivation) → Good s d → (b : Bool) → leb (gives d).leaf_count (whole_rows table) ≡ b → Outcomes (directory s table list)
      rows d g true e = room d g (leb-true _ _ e) (leb (gives d).entities (length list)) refl
      rows d g false e = let h = leb-false _ _ e in rw (few_rows_is d g h) (few_rows d g h)

      go : (m : Outcome ℕ (List Placed)) → read_section s ≡ m → Outcomes (directory s table list)
      go (ok es end) k = let (d, g, q) = all_ok (section_sound s u) k in rows d g (leb (gives d).leaf_count (whole_rows table)) refl
      go (refuse n p) k = let r = (refusal_exact s u n p).0 k in rw (refused_is u n p r) (refuses n p r)

-- The list has the records of the entities
module _ (d : Derivation) (list : List Record) (k : (gives d).entities ≤ length list) where
  abbrev rs : List Record
  rs = records_from 0 (entities_of d)

  count : length rs ≡ (gives d).entities
  count = length_records 0 (entities_of d)

  lists : ListsEntities d list (list_for d list)
  lists = record {
    same_length = omega (arith, length-append rs (drop (length rs) list), length-drop (length rs) list, count);
    records = λ index e other. get_or-append rs (drop (length rs) list) other index (omega (arith, count, index_below d.items e)) ∙ record_with d e other;
    beyond = λ index h other.
        let i : (i : ℕ) × (index ≡ length rs + i) = (index - length rs, omega (arith, count)) in
        rw i.1 (get_or-append-add rs (drop (length rs) list) i.0 other ∙ get_or-drop (length rs) list i.0 other);
  }

  -- And no other list has
  only_list : (after : List Record) → ListsEntities d list after → after ≡ list_for d list
  only_list after a = ext_get_or zeros after (list_for d list) (a.same_length ∙ sym lists.same_length) (λ i h. go i (ltb i (gives d).entities) refl)
    where
      go : (i : ℕ) (b : Bool) → ltb i (gives d).entities ≡ b → get_or after i zeros ≡ get_or (list_for d list) i zeros
      go i true e = let w = entity_with d.items i (ltb-true i (gives d).entities e) in a.records i w zeros ∙ sym (lists.records i w zeros)
      go i false e = let h = ltb-false i (gives d).entities e in a.beyond i h zeros ∙ sym (lists.beyond i h zeros)

-- Which outcome a result is
module _ (s table : List ℕ) (list : List Record) where
  abbrev AcceptedBy : Type 0
  AcceptedBy = (d : Derivation) × Good s d × ((gives d).leaf_count ≤ whole_rows table) × ((gives d).entities ≤ length list)

  accepts_if : (r : Listed) → Outcomes s table list r → Accepts r.result.answer → AcceptedBy
  accepts_if r (accepts d g h k) a = (d, g, h, k)
  accepts_if r (few_records d g h k) a = let z : ◌≡◌ {A = ℕ} 0 1 = cc in absurd (omega arith)
  accepts_if r (few_rows d g h) a = let z : ◌≡◌ {A = ℕ} 0 1 = cc in absurd (omega arith)
  accepts_if r (refuses n p x) a = let z : ◌≡◌ {A = ℕ} 0 1 = cc in absurd (omega arith)

  -- The number of a refusal
  number : {r : Listed} {n p : ℕ} → r ≡ refused_listed n p table list → r.result.answer.number ≡ n
  number e = ap (λ (x : Listed). x.result.answer.number) e

  not_accepted : {r : Listed} {n p : ℕ} → Accepts r.result.answer → r ≡ refused_listed n p table list → ⊥
  not_accepted a e =
      let q = ap (λ (x : Listed). x.result.answer.accepts) e in
      let z : ◌≡◌ {A = ℕ} 0 1 = cc in
      omega arith

  few_records_if : (r : Listed) → Outcomes s table list r → r ≡ refused_listed 21 0 table list → (d : Derivation) × Good s d × ((gives d).leaf_count ≤ whole_rows table) × (length list < (gives d).entities)
  few_records_if r (accepts d g h k) e = absurd (not_accepted refl e)
  few_records_if r (few_records d g h k) e = (d, g, h, k)
  few_records_if r (few_rows d g h) e = absurd (omega (arith, number e))
  few_records_if r (refuses n p x) e = absurd (omega (arith, number e, refusal_numbered s n p x))

  few_rows_if : (r : Listed) → Outcomes s table list r → r ≡ refused_listed 13 0 table list → (d : Derivation) × Good s d × (whole_rows table < (gives d).leaf_count)
  few_rows_if r (accepts d g h k) e = absurd (not_accepted refl e)
  few_rows_if r (few_records d g h k) e = absurd (omega (arith, number e))
  few_rows_if r (few_rows d g h) e = (d, g, h)
  few_rows_if r (refuses n p x) e = absurd (omega (arith, number e, refusal_numbered s n p x))

  refuses_if : (r : Listed) → Outcomes s table list r → (m q : ℕ) → m ≤ 12 → r ≡ refused_listed m q table list → SectionRefusal s m q
  refuses_if r (accepts d g h k) m q l e = absurd (not_accepted refl e)
  refuses_if r (few_records d g h k) m q l e = absurd (omega (arith, number e))
  refuses_if r (few_rows d g h) m q l e = absurd (omega (arith, number e))
  refuses_if r (refuses n p x) m q l e = rw (← number e, ← ap (λ (x : Listed). x.result.answer.place) e) x

  told : (r : Listed) → Outcomes s table list r → Told r.result.answer
  told r (accepts d g h k) = refl
  told r (few_records d g h k) = refl
  told r (few_rows d g h) = refl
  told r (refuses n p x) = ne_eqb n 0 (λ z. omega (arith, z, refusal_numbered s n p x))

  module _ (u : Bytes s) where
    directory_meets : ExactDirectory s table list (directory s table list)
    directory_meets = record {
      accepts = (accepts_if _ (outcome s table list u), λ a. rw (accepted_is s table list a.0 a.1 a.2 a.3));
      fits = λ d g h k. rw (accepted_is s table list d g h k) (refl, lists d list k);
      few_records = (few_records_if _ (outcome s table list u), λ a. few_records_is s table list a.0 a.1 a.2 a.3);
      few_rows = (few_rows_if _ (outcome s table list u), λ a. few_rows_is s table list a.0 a.1 a.2);
      refuses = λ n p l. (refuses_if _ (outcome s table list u) n p l, refused_is s table list u n p);
      others = (reading_meets s u table).exact.others;
      numbered = told _ (outcome s table list u);
    }

    directory_only : (r : Listed) → ExactDirectory s table list r → r ≡ directory s table list
    directory_only r x = go (directory s table list) (outcome s table list u)
      where
        go : (y : Listed) → Outcomes s table list y → r ≡ y
        go y (accepts d g h k) = let (e, l) = x.fits d g h k in λ i. record { result = e i; list = only_list d list k r.list l i }
        go y (few_records d g h k) = x.few_records.1 (d, g, h, k)
        go y (few_rows d g h) = x.few_rows.1 (d, g, h)
        go y (refuses n p z) = (x.refuses n p (refusal_numbered s n p z).1).1 z

pub directory_exact : DirectoryExact
directory_exact s u table list r = (directory_only s table list u r, λ e. rw e (directory_meets s table list u))
