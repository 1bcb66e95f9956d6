-- What rows spell: the reading from rows finds exactly that.
use Prim.Native.Nat.{ℕ, zero, suc, ◌+◌, ◌*◌, ◌≤◌, ◌<◌}
use native.Mathlib.Omega.{arith}
use mathlib.Core.Bool.{Bool, true, false, cond, ◌&&◌, and-eq-true_iff}
use mathlib.Core.List.{List, [], ◌∷◌}
use mathlib.Core.Path.{◌≡◌, refl, sym, ap, subst, ◌∙◌}
use lib.Dec.{eqb}
use lib.ListN.{length, length-append}
use borrow.Author.Tests.{eqb-true, eqb-false, eq-eqb, ltb-true, lt-ltb, leb-true, le-leb}
use Rattle.text.specs.Rfc3629.{Utf8}
use Rattle.text.proofs.Exact.{utf8_exact}
use Rattle.layout.specs.Layout.{Sort, Kind, Tag, Flag, Number, Count, Leaf, plain, string, Layout, Value, leaves, Meets, bound, Fits}
use Rattle.layout.specs.Written.{text_sort, leaf_bytes, bytes_of, row_width, sort_number, sort_at}
use Rattle.layout.specs.Reading.{Outcome, ok, refuse, ◌>>=◌, need, walk, utf8}
use Rattle.layout.specs.Answers.{limit, whole_rows}
use Rattle.layout.proofs.Each.{Each, each_of, meets_each}
use Rattle.layout.proofs.Walk.{All, given, refused, all_bind, all_need, Sound, Complete, sound, complete}
use Rattle.writing.specs.Rows.{is_row, lent_at, in_rows, stays_at, good_at, good_rows}
use Rattle.writing.specs.Writing.{fourteen, wholly}
use Rattle.writing.specs.Refusals.{RowGives, Along, Sized, Form, alone, Spells, GoodText, GoodTexts}
use Rattle.writing.proofs.Along.{along_join, along_part, along_at, along_map}
use Rattle.writing.specs.Theorems.{SpellsProper, SpellsUnique}

-- A row of a given sort
pub is_row_lem : (rows : List ℕ) (i sort : ℕ) → is_row rows i sort ≡ true → (i < whole_rows rows) × (sort_at rows i ≡ sort)
is_row_lem rows i sort e = let (a, b) = (and-eq-true_iff _ _).0 e in (ltb-true _ _ a, eqb-true _ _ b)

-- The sort of a number is not that of a text
pub plain_not_text : (srt : Sort) → sort_number srt ≡ text_sort → ⊥
plain_not_text Kind z = omega arith
plain_not_text Tag z = omega arith
plain_not_text Flag z = omega arith
plain_not_text Number z = omega arith
plain_not_text Count z = omega arith

module _ (rows text : List ℕ) where
  -- A row exists and gives a leaf
  abbrev pub There : (row : ℕ) → Leaf → Type 0
  There i x = (i < whole_rows rows) × RowGives rows text i x

  -- So do the rows from i on
  abbrev pub Given : (row : ℕ) → List Leaf → Type 0
  Given = Along There

  pub given_there : (i : ℕ) (ls : List Leaf) → Given i ls → (k : ℕ) → i ≤ k → k < i + length ls → k < whole_rows rows
  given_there = along_at There (λ k. k < whole_rows rows) (λ k x h. h.0)

  -- And the next row comes after them
  pub record Begins (i : ℕ) (ls : List Leaf) (end : ℕ) : Type 0 where
    pub gives : Given i ls
    pub ends : end ≡ i + length ls

  there_row : (i sort : ℕ) → i < whole_rows rows → sort_at rows i ≡ sort → is_row rows i sort ≡ true
  there_row i sort h e = rw (lt-ltb i (whole_rows rows) h, eq-eqb (sort_at rows i) sort e)

  rows_sound : Sound (in_rows rows text) Sized Begins
  rows_sound = record {
    none = λ i. record { gives = tt; ends = omega arith };
    join = λ {st} {m} {end} a b h k. record { gives = along_join There st m a b h.ends h.gives k.gives; ends = k.ends ∙ omega (arith, h.ends, length-append a b) };
    plainly = λ srt i.
        all_need _ 14 0 _ λ e.
        all_need _ 14 0 _ λ f.
        let (h, k) = is_row_lem rows i (sort_number srt) e in
        given (ltb-true _ _ f, record { gives = ((h, (k, refl)), tt); ends = refl });
    textly = λ i.
        all_need _ 14 0 _ λ e.
        let (h, k) = is_row_lem rows i text_sort e in
        given (tt, record { gives = ((h, (k, refl)), tt); ends = refl });
  }

  rows_complete : Complete (in_rows rows text) Sized Begins
  rows_complete = record {
    none = λ h. omega (arith, h.ends);
    part = λ {st} {end} a b h.
        let (g, k) = along_part There st a b h.gives in
        (st + length a, record { gives = g; ends = refl }, record { gives = k; ends = h.ends ∙ omega (arith, length-append a b) });
    plainly = λ {st} {end} srt n f h.
        let ((k, (s, v)), u) = h.gives in
        let e : st + 1 ≡ end = omega (arith, h.ends) in
        rw (there_row st (sort_number srt) k s, v, lt-ltb n (bound srt) f, e);
    textly = λ {st} {end} t f h.
        let ((k, (s, v)), u) = h.gives in
        let e : st + 1 ≡ end = omega (arith, h.ends) in
        rw (there_row st text_sort k s, v, e);
  }

pub whole_rows_lem : (rows : List ℕ) (n : ℕ) → length rows ≡ row_width * n → whole_rows rows ≡ n
whole_rows_lem rows n e = omega arith

all_fourteen : {A : Type 0} {P : A → ℕ → Type 0} (m : Outcome ℕ A) → All P m → All P (fourteen m)
all_fourteen m (given h) = given h
all_fourteen m refused = refused

-- What is taken from the rows is what they spell
pub record Takes (F : Form) (rows text : List ℕ) (taken : Outcome ℕ F.Content) : Type 0 where
  pub sound : All (λ v end. F.Allowed v × Begins rows text 0 (F.leaves v) end) taken
  pub complete : (v : F.Content) → F.Allowed v → Given rows text 0 (F.leaves v) → whole_rows rows ≡ length (F.leaves v) → taken ≡ ok v (length (F.leaves v))

-- Rows that spell a value give its leaves
pub spells_given : (F : Form) (rows text : List ℕ) (v : F.Content) → Spells F rows text v → Given rows text 0 (F.leaves v)
spells_given F rows text v s =
    let w = whole_rows_lem rows (length (F.leaves v)) s.whole in
    along_map (RowGives rows text) (There rows text) 0 (F.leaves v) (λ k x a b g. (omega arith, g)) s.give

module _ (F : Form) (rows text : List ℕ) (taken : Outcome ℕ F.Content) (k : Takes F rows text taken) where
  pub spelled_complete : (v : F.Content) → Spells F rows text v → wholly rows taken ≡ ok v (length (F.leaves v))
  unfolding wholly
  spelled_complete v s =
      let n = length (F.leaves v) in
      rw (k.complete v s.allowed (spells_given F rows text v s) (whole_rows_lem rows n s.whole), eq-eqb (row_width * n) (length rows) (sym s.whole))

  pub spelled_sound : All (λ v end. Spells F rows text v) (wholly rows taken)
  unfolding wholly
  spelled_sound =
      all_fourteen _
      (all_bind taken _ k.sound λ v end p.
      all_need (eqb (row_width * end) (length rows)) 14 0 _ λ e.
      let w : end ≡ length (F.leaves v) = p.1.ends ∙ omega arith in
      given (record { allowed = p.0; whole = sym (eqb-true _ _ e) ∙ ap (λ (n : ℕ). row_width * n) w; give = along_map (There rows text) (RowGives rows text) 0 (F.leaves v) (λ k x a b g. g.1) p.1.gives }))

pub spelled_refused : {A : Type 0} (rows : List ℕ) (taken : Outcome ℕ A) (n p : ℕ) → wholly rows taken ≡ refuse n p → (n ≡ 14) × (p ≡ 0)
unfolding wholly
spelled_refused rows taken n p e = go (taken >>= λ v end. need (eqb (row_width * end) (length rows)) 14 0 (ok v end)) e
  where
    go : {A : Type 0} (m : Outcome ℕ A) → fourteen m ≡ refuse n p → (n ≡ 14) × (p ≡ 0)
    go (ok v end) e = let z : ◌≡◌ {A = ℕ} 0 1 = cc in absurd (omega arith)
    go (refuse a b) e = (cc, cc)

-- A walk over the rows of a layout
module _ (L : Layout) (rows text : List ℕ) where
  pub walk_sound : (i : ℕ) → All (λ v end. Meets Sized L v × Begins rows text i (leaves L v) end) (walk (in_rows rows text) L i)
  walk_sound = sound (in_rows rows text) Sized (Begins rows text) (rows_sound rows text) L

  pub walk_complete : (v : Value L) (i : ℕ) → Meets Sized L v → Given rows text i (leaves L v) → walk (in_rows rows text) L i ≡ ok v (i + length (leaves L v))
  walk_complete v i m g = complete (in_rows rows text) Sized (Begins rows text) (rows_complete rows text) L v m (record { gives = g; ends = refl })

  pub takes_alone : Takes (alone L) rows text (walk (in_rows rows text) L 0)
  takes_alone = record {
    sound = walk_sound 0;
    complete = λ v m g w. let e : 0 + length (leaves L v) ≡ length (leaves L v) = omega arith in walk_complete v 0 m g ∙ ap (ok v) e;
  }

module _ (rows text : List ℕ) where
  good_text : (i : ℕ) → sort_at rows i ≡ text_sort → good_at rows text i ≡ true → GoodText rows text i
  unfolding utf8
  good_text i s e =
      let (a, b) = (and-eq-true_iff _ _).0 (rw (eq-eqb (sort_at rows i) text_sort s) at e) in
      (leb-true _ _ a, (utf8_exact _).0 b)

  text_good : (i : ℕ) → (sort_at rows i ≡ text_sort → GoodText rows text i) → good_at rows text i ≡ true
  unfolding utf8
  text_good i h = go (eqb (sort_at rows i) text_sort) refl
    where
      go : (b : Bool) → eqb (sort_at rows i) text_sort ≡ b → cond b (stays_at rows text i && utf8 (lent_at rows text i)) true ≡ true
      go true e = let (a, b) = h (eqb-true _ _ e) in rw (le-leb _ _ a, (utf8_exact _).1 b)
      go false e = refl

  pub good_sound : (n : ℕ) → good_rows rows text n ≡ true → (i : ℕ) → i < n → good_at rows text i ≡ true
  good_sound zero e i h = absurd (omega arith)
  good_sound (suc n) e i h = let (a, b) = (and-eq-true_iff _ _).0 e in go (eqb i n) refl b (λ k. good_sound n a i k)
    where
      go : (b : Bool) → eqb i n ≡ b → good_at rows text n ≡ true → (i < n → good_at rows text i ≡ true) → good_at rows text i ≡ true
      go true q k l = rw (eqb-true i n q) k
      go false q k l = l (let z = eqb-false i n q in omega arith)

  good_complete : (n : ℕ) → ((i : ℕ) → i < n → good_at rows text i ≡ true) → good_rows rows text n ≡ true
  good_complete zero h = refl
  good_complete (suc n) h = rw (good_complete n (λ i k. h i (omega arith)), h n (omega arith))

  pub goods : good_rows rows text (whole_rows rows) ≡ true → GoodTexts rows text
  goods e i h s = good_text i s (good_sound (whole_rows rows) e i h)

  pub all_good : GoodTexts rows text → good_rows rows text (whole_rows rows) ≡ true
  all_good g = good_complete (whole_rows rows) (λ i h. text_good i (g i h))

  -- If not all rows are good, there is one that is not
  bad_row : (n : ℕ) → good_rows rows text n ≡ false → (i : ℕ) × (i < n) × (good_at rows text i ≡ false)
  bad_row zero e = let z : ◌≡◌ {A = ℕ} 1 0 = ap (λ (b : Bool). cond b 1 0) e in absurd (omega arith)
  bad_row (suc n) e = go (good_rows rows text n) refl e (bad_row n)
    where
      go : (b : Bool) → good_rows rows text n ≡ b → (b && good_at rows text n) ≡ false → (good_rows rows text n ≡ false → (i : ℕ) × (i < n) × (good_at rows text i ≡ false))
          → (i : ℕ) × (i < suc n) × (good_at rows text i ≡ false)
      go true q z l = (n, omega arith, z)
      go false q z l = let (i, h, k) = l q in (i, omega arith, k)

  not_good : (i : ℕ) → good_at rows text i ≡ false → (sort_at rows i ≡ text_sort) × (GoodText rows text i → ⊥)
  not_good i e = (go (eqb (sort_at rows i) text_sort) refl, λ g. both (text_good i (λ s. g)))
    where
      both : good_at rows text i ≡ true → ⊥
      both q = let z : ◌≡◌ {A = Bool} true false = sym q ∙ e in let w : ◌≡◌ {A = ℕ} 1 0 = ap (λ (b : Bool). cond b 1 0) z in omega arith

      go : (b : Bool) → eqb (sort_at rows i) text_sort ≡ b → sort_at rows i ≡ text_sort
      go true q = eqb-true _ _ q
      go false q = absurd (both (rw q))

  pub not_all_good : good_rows rows text (whole_rows rows) ≡ false → (i : ℕ) × (i < whole_rows rows) × (sort_at rows i ≡ text_sort) × (GoodText rows text i → ⊥)
  not_all_good e = let (i, h, k) = bad_row (whole_rows rows) e in let (s, g) = not_good i k in (i, h, s, g)

-- Leaves that are sized, with good texts and not too long, fit
pub fitting : (rows text : List ℕ) → GoodTexts rows text → (i : ℕ) (ls : List Leaf) → Given rows text i ls → Each Sized ls → length (bytes_of ls) ≤ limit → Each Fits ls
fitting rows text g i [] h z l = tt
fitting rows text g i (plain srt n ∷ ls) h z l =
    (z.0, fitting rows text g (i + 1) ls h.1 z.1 (omega (arith, length-append (leaf_bytes (plain srt n)) (bytes_of ls))))
fitting rows text g i (string t ∷ ls) h z l =
    let ((there, (s, e)), others) = h in
    let (a, b) = g i there s in
    let k = length-append (leaf_bytes (string t)) (bytes_of ls) in
    ((subst Utf8 e b, omega (arith, k)), fitting rows text g (i + 1) ls others z.1 (omega (arith, k)))

pub spells_proper : SpellsProper
spells_proper L rows text v s g l =
    meets_each Sized Fits L v s.allowed (fitting rows text g 0 (leaves L v) (spells_given (alone L) rows text v s) (each_of Sized L v s.allowed) l)

pub spells_unique : SpellsUnique
spells_unique L rows text v w s t =
    let k = takes_alone L rows text in
    let a = spelled_complete (alone L) rows text _ k v s in
    let b = spelled_complete (alone L) rows text _ k w t in
    cc
