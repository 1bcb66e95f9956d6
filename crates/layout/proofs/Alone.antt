-- The reading of one value alone, and how any reading through a table meets the statement of demand 3.
use Prim.Native.Nat.{ℕ, zero, suc, ◌+◌, ◌≤◌, ◌<◌}
use native.Mathlib.Omega.{arith}
use mathlib.Core.Bool.{Bool, true, false, cond}
use mathlib.Core.List.{List, [], ◌∷◌, append-nil}
use mathlib.Core.Logic.{◌↔◌}
use mathlib.Core.Path.{◌≡◌, refl, sym, ap, ◌∙◌}
use lib.Dec.{leb}
use lib.ListN.{length, drop}
use borrow.Author.Tests.{leb-true, leb-false, le-leb, lt-leb, ne_eqb}
use Rattle.layout.specs.Layout.{Layout, Value, leaves}
use Rattle.layout.specs.Written.{bytes}
use Rattle.layout.specs.Reading.{Outcome, ok, refuse, read}
use Rattle.layout.specs.Answers.{limit, Answer, accepted, refused, Accepts, Result, Given, whole_rows, acceptance, refusal, Exact}
use Rattle.layout.specs.Alone.{given, Derives, RefusalAlone, too_long, bad_payload}
use Rattle.layout.specs.ReadAlone.{through_table, read_alone, reading_alone}
use Rattle.layout.specs.Theorems.{Bytes, AloneExact, RefusalAloneExact, AloneOnly, Told, AloneTold, AloneUnique}
use Rattle.layout.proofs.Walk.{All, all_ok, all_bind, all_need, all_when, Fails, fails_need, fails_map, fails_refuse}
use Rattle.layout.proofs.InBytes.{read_complete, read_sound, value_unique}
use Rattle.layout.proofs.BadReads.{payload_bad, payload_refuses}
use Rattle.layout.proofs.Judges.{alone_numbered}
use Rattle.layout.proofs.Walk as walk

-- A reading m finds exactly what a good derivation gives, and refuses exactly under the condition of a refusal
pub record Finds {D : Type 0} (Good : D → Type 0) (gives : D → Given) (Refusal : (number place : ℕ) → Type 0) (m : Outcome ℕ Given) : Type 0 where
  pub complete : (d : D) → Good d → (end : ℕ) × (m ≡ ok (gives d) end)
  pub sound : All (λ g end. (d : D) × Good d × (g ≡ gives d)) m
  pub refuses : (n p : ℕ) → (m ≡ refuse n p) ↔ Refusal n p
  pub numbered : (n p : ℕ) → Refusal n p → (1 ≤ n) × (n ≤ 12)

pub never_accepts : {P : Type 0} {n p : ℕ} {e r : ℕ} → accepted e r ≡ refused n p → P
never_accepts e = let z : true ≡ false = ap (λ (a : Answer). a.accepts) e in let w : ◌≡◌ {A = ℕ} 0 1 = cc in absurd (omega arith)

enough : (b : Bool) (r : Result) (table : List ℕ) → Accepts (cond b r (refusal 13 0 table)).answer → b ≡ true
enough true r table a = refl
enough false r table a = let z : ◌≡◌ {A = ℕ} 0 1 = cc in absurd (omega arith)

-- An acceptance or 13, depending on a test: if it is 13, the test failed
thirteen : (b : Bool) (g : Given) (table : List ℕ) → cond b (acceptance g table) (refusal 13 0 table) ≡ refusal 13 0 table → b ≡ false
thirteen true g table e = never_accepts (ap (λ (r : Result). r.answer) e)
thirteen false g table e = refl

-- It is no refusal with another number
pub only_thirteen : (b : Bool) (g : Given) (table : List ℕ) (n p : ℕ) → (cond b (acceptance g table) (refusal 13 0 table)).answer ≡ refused n p → n ≡ 13
only_thirteen true g table n p e = never_accepts e
only_thirteen false g table n p e = sym (ap (λ (a : Answer). a.number) e)

module _ {D : Type 0} (Good : D → Type 0) (gives : D → Given) (Refusal : (number place : ℕ) → Type 0) where
  -- Such a reading, through a table, is exact
  pub exact : (m : Outcome ℕ Given) → Finds Good gives Refusal m → (table : List ℕ) → Exact Good gives Refusal table (through_table m table)
  exact m f table =
      record {
        accepts = (only m f.sound, λ a. rw (whole a.0 a.1 a.2));
        fits = whole;
        too_few = (few m f.sound refl, λ a. full a.0 a.1 a.2);
        refuses = λ n p l. (λ e. (f.refuses n p).0 (stops m n p l e), λ h. rw ((f.refuses n p).1 h));
        others = other m refl;
      }
    where
      whole : (d : D) → Good d → (gives d).leaf_count ≤ whole_rows table → through_table m table ≡ acceptance (gives d) table
      whole d g h = rw ((f.complete d g).1, le-leb (gives d).leaf_count (whole_rows table) h)

      full : (d : D) → Good d → whole_rows table < (gives d).leaf_count → through_table m table ≡ refusal 13 0 table
      full d g h = rw ((f.complete d g).1, lt-leb (gives d).leaf_count (whole_rows table) h)

      only : (n : Outcome ℕ Given) → All (λ g end. (d : D) × Good d × (g ≡ gives d)) n → Accepts (through_table n table).answer → (d : D) × Good d × ((gives d).leaf_count ≤ whole_rows table)
      only (ok g end) s a =
          let t = all_ok s refl in
          let h : g.leaf_count ≤ whole_rows table = leb-true _ _ (enough _ (acceptance g table) table a) in
          (t.0, t.1, omega (arith, ap (λ (x : Given). x.leaf_count) t.2))
      only (refuse n p) s a = let z : ◌≡◌ {A = ℕ} 0 1 = cc in absurd (omega arith)

      few : (n : Outcome ℕ Given) → All (λ g end. (d : D) × Good d × (g ≡ gives d)) n → m ≡ n → through_table m table ≡ refusal 13 0 table → (d : D) × Good d × (whole_rows table < (gives d).leaf_count)
      few (ok g end) s e a =
          let t = all_ok s refl in
          let h : whole_rows table < g.leaf_count = leb-false _ _ (thirteen _ g table (rw e at a)) in
          (t.0, t.1, omega (arith, ap (λ (x : Given). x.leaf_count) t.2))
      few (refuse n p) s e a =
          let q : n ≡ 13 = ap (λ (r : Result). r.answer.number) (rw e at a) in
          let l = (f.numbered n p ((f.refuses n p).0 e)).1 in
          absurd (omega arith)

      stops : (o : Outcome ℕ Given) (n p : ℕ) → n ≤ 12 → through_table o table ≡ refusal n p table → o ≡ refuse n p
      stops (ok g end) n p l e = let q : n ≡ 13 = only_thirteen (leb g.leaf_count (whole_rows table)) g table n p (ap (λ (r : Result). r.answer) e) in absurd (omega arith)
      stops (refuse k q) n p l e =
          let a : k ≡ n = ap (λ (r : Result). r.answer.number) e in
          let b : q ≡ p = ap (λ (r : Result). r.answer.place) e in
          rw (a, b)

      other : (o : Outcome ℕ Given) → m ≡ o → ((d : D) → Good d → ⊥) → (n p : ℕ) × Refusal n p × (1 ≤ n) × (n ≤ 12)
      other (ok g end) e none = let t = all_ok f.sound e in absurd (none t.0 t.1)
      other (refuse n p) e none =
          let h = (f.refuses n p).0 e in
          let (a, b) = f.numbered n p h in
          (n, p, h, a, b)

  -- And only that result is exact
  pub exact_only : (m : Outcome ℕ Given) → Finds Good gives Refusal m → (table : List ℕ) (r : Result) → Exact Good gives Refusal table r → r ≡ through_table m table
  exact_only m f table r t = go m refl
    where
      by_rows : (d : D) → Good d → (b : Bool) → leb (gives d).leaf_count (whole_rows table) ≡ b → r ≡ through_table m table
      by_rows d g true q = t.fits d g (leb-true _ _ q) ∙ sym ((exact m f table).fits d g (leb-true _ _ q))
      by_rows d g false q = t.too_few.1 (d, g, leb-false _ _ q) ∙ sym ((exact m f table).too_few.1 (d, g, leb-false _ _ q))

      go : (n : Outcome ℕ Given) → m ≡ n → r ≡ through_table m table
      go (ok g end) e = let (d, h, q) = all_ok f.sound e in by_rows d h _ refl
      go (refuse n p) e = let h = (f.refuses n p).0 e in (t.refuses n p (f.numbered n p h).1).1 h ∙ rw e

  -- Its answer accepts exactly if the number is 0
  pub told : (m : Outcome ℕ Given) → Finds Good gives Refusal m → (table : List ℕ) → Told (through_table m table).answer
  told m f table = go m refl
    where
      either : (b : Bool) (g : Given) → Told (cond b (acceptance g table) (refusal 13 0 table)).answer
      either true g = refl
      either false g = refl

      go : (n : Outcome ℕ Given) → m ≡ n → Told (through_table n table).answer
      go (ok g end) e = either (leb g.leaf_count (whole_rows table)) g
      go (refuse n p) e = ne_eqb n 0 λ z. omega (arith, (f.numbered n p ((f.refuses n p).0 e)).0)

drop_all : (n : ℕ) (l : List ℕ) → length l ≤ n → drop n l ≡ []
drop_all zero [] h = refl
drop_all zero (x ∷ l) h = absurd (omega arith)
drop_all (suc n) [] h = refl
drop_all (suc n) (x ∷ l) h = drop_all n l (omega arith)

module _ (L : Layout) (entities : ℕ) (s : List ℕ) where
  pub alone_complete : (v : Value L) → Derives L s v → read_alone L entities s ≡ ok (given entities (leaves L v)) (length s)
  unfolding read_alone
  alone_complete v g =
      let e : read L s 0 ≡ ok (leaves L v) (0 + length (bytes L v)) = read_complete L v s 0 [] g.proper (sym g.derives ∙ sym (append-nil (bytes L v))) in
      let n : 0 + length (bytes L v) ≡ length s = omega (arith, ap length g.derives) in
      rw (le-leb (length s) limit g.small, e, n, le-leb (length s) (length s) (omega arith))

  sound : Bytes s → All (λ g end. (v : Value L) × Derives L s v × (g ≡ given entities (leaves L v))) (read_alone L entities s)
  unfolding read_alone
  sound u =
      all_need (leb (length s) limit) 1 0 _ λ h.
      all_bind (read L s 0) _ (all_when _ (read_sound L s u 0)) λ ls end p.
      all_need (leb (length s) end) 12 end _ λ z.
      let (v, proper, same, there) = p in
      let d : drop end s ≡ [] = drop_all end s (leb-true _ _ z) in
      walk.given (v, record { small = leb-true (length s) limit h; proper = proper; derives = sym (there.0 ∙ rw d (append-nil (bytes L v))) }, rw same)

  bad_alone : Bytes s → Fails (RefusalAlone L s) (read_alone L entities s)
  unfolding read_alone
  bad_alone u =
      fails_need (leb (length s) limit) 1 0 _ (λ e. too_long (leb-false _ _ e)) λ e.
      fails_map (payload_bad s (given entities) (length s) refl u L 0) λ n p b. bad_payload (leb-true _ _ e) b

  refuses_alone : {n p : ℕ} → RefusalAlone L s n p → read_alone L entities s ≡ refuse n p
  unfolding read_alone
  refuses_alone (too_long h) = rw (lt-leb (length s) limit h)
  refuses_alone (bad_payload h b) = rw (le-leb (length s) limit h) (payload_refuses s (given entities) (length s) refl b)

pub refusal_alone : RefusalAloneExact
refusal_alone L entities s u n p = (fails_refuse (bad_alone L entities s u), refuses_alone L entities s)

finds : (L : Layout) (entities : ℕ) (s : List ℕ) → Bytes s → Finds (Derives L s) (λ v. given entities (leaves L v)) (RefusalAlone L s) (read_alone L entities s)
finds L entities s u = record {
  complete = λ v g. (length s, alone_complete L entities s v g);
  sound = sound L entities s u;
  refuses = refusal_alone L entities s u;
  numbered = λ n p h. alone_numbered L s n p h;
}

pub alone_exact : AloneExact
unfolding reading_alone
alone_exact L entities s u table = exact _ _ _ (read_alone L entities s) (finds L entities s u) table

pub alone_only : AloneOnly
unfolding reading_alone
alone_only L entities s u table r t = exact_only _ _ _ (read_alone L entities s) (finds L entities s u) table r t

pub alone_told : AloneTold
unfolding reading_alone
alone_told L entities s u table = told _ _ _ (read_alone L entities s) (finds L entities s u) table

pub alone_unique : AloneUnique
alone_unique L s v w g k = (value_unique L v w [] [] g.proper k.proper (rw (g.derives, k.derives))).0
