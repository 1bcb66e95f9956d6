-- The result of reading a leaf, from the tests on it.
use Prim.Native.Nat.{ℕ, ◌+◌, ◌≤◌, ◌<◌}
use native.Mathlib.Omega.{arith}
use mathlib.Core.Bool.{Bool, true, false, cond}
use mathlib.Core.List.{List, [], ◌∷◌}
use mathlib.Core.Path.{◌≡◌, refl, sym, ◌∙◌}
use lib.ListN.{length, take, drop, length-drop}
use lib.Seq.{length-take-le}
use lib.Dec.{eqb, leb}
use borrow.Author.Tests.{eq-eqb, ne_eqb, lt-leb, le-leb, eqb-true, eqb-false, leb-true}
use Rattle.std.specs.Prelude.{◌↔◌}
use Rattle.std.proofs.lemmas.Bool.{false≢true}
use Rattle.std.proofs.lemmas.Grind.{common_steps}
use Rattle.table.specs.declared.RefusalKind.{RefusalKind}
use Rattle.table.specs.Answers.{number_of}
use Rattle.leaf.specs.declared.Reader.{Reader}
use Rattle.leaf.specs.Reader.{cursor_of, state_of}
use Rattle.layout.specs.Layout.{Sort, plain, string}
use Rattle.layout.specs.Written.{sort_number}
use Rattle.layout.specs.Reading.{Outcome, ok, refuse, ◌>>=◌, utf8, number_at, text_at}
use Rattle.layout.specs.Answers.{limit}
use Rattle.reading.specs.State.{Cursor, ReadState, read_state, stop, put, arrive, guarded}
use Rattle.leaf.specs.Private.{put_number, Enough, Short}
use Rattle.text.specs.Walk as automaton

-- A number stored with its sort's number is a leaf of that sort
pub number_arrives : (srt : Sort) (o : Outcome ℕ ℕ) (st : ReadState) → put_number (sort_number srt) o st ≡ arrive (o >>= λ n next. ok (plain srt n) next) st
number_arrives srt (ok n next) st = refl
number_arrives srt (refuse n p) st = refl

-- The tests that come first
module _ (s table : List ℕ) (c : Cursor) (out : ReadState) where
  pub refused_stays : (c.refusal ≡ 0 → ⊥) → read_state c table ≡ guarded s out (read_state c table)
  unfolding guarded
  refused_stays h = rw (ne_eqb _ _ h)

  module _ (z : c.refusal ≡ 0) where
    pub long_stops : limit < length s → (r : ReadState) → r ≡ stop 1 0 (read_state c table) → r ≡ guarded s out (read_state c table)
    unfolding guarded
    long_stops h r e = rw (eq-eqb _ _ z, lt-leb (length s) limit h, e)

    pub goes_on : length s ≤ limit → (r : ReadState) → r ≡ out → r ≡ guarded s out (read_state c table)
    unfolding guarded
    goes_on h r e = rw (eq-eqb _ _ z, le-leb (length s) limit h) e

-- The number of a kind of refusal is not 0
pub number_not_0 : (kind : RefusalKind) → number_of kind ≡ 0 → ⊥
number_not_0 kind e = grind (arith, common_steps)

module _ {n : ℕ} {p q : Reader} where
  -- With n bytes left, the reading goes on
  pub read_on : Enough n p q → (r out : ReadState) → r ≡ out → r ≡ guarded q.s.now out (state_of q)
  read_on h r out k = goes_on q.s.now q.t.now (cursor_of q) out h.going h.small r k

  -- With fewer, it does not
  pub not_on : Short n p q → (out : ReadState) → (length p.s.now < p.at + n → out ≡ stop 5 p.at (state_of p)) → state_of q ≡ guarded p.s.now out (state_of p)
  unfolding guarded
  not_on h out e = h.state ∙ go (eqb (p.refusal) 0) (leb (length p.s.now) limit) refl refl
    where
      go : (a b : Bool) → eqb (p.refusal) 0 ≡ a → leb (length p.s.now) limit ≡ b
          → cond a (cond b (stop 5 p.at (state_of p)) (stop 1 0 (state_of p))) (state_of p) ≡ cond a (cond b out (stop 1 0 (state_of p))) (state_of p)
      go true true u v = sym (e (h.short (eqb-true _ _ u) (leb-true _ _ v)))
      go true false u v = refl
      go false b u v = refl

-- A text. n is the number in its four length bytes
module _ (s : List ℕ) (st : ReadState) (n : ℕ) (e : n ≡ number_at s st.cursor.at) (h : st.cursor.at + 4 ≤ length s) where
  abbrev at : ℕ
  at = st.cursor.at

  pub text_long : length s < at + 4 + n → arrive (text_at s at >>= λ t next. ok (string t) next) st ≡ stop 5 (at + 4) st
  text_long k = rw (le-leb (at + 4) (length s) h, ← e, lt-leb (at + 4 + n) (length s) k)

  module _ (k : at + 4 + n ≤ length s) (x : ℕ) (q : x ≡ n) where
    pub text_wrong : automaton.utf8 (take x (drop (at + 4) s)) ≡ false → arrive (text_at s at >>= λ t next. ok (string t) next) st ≡ stop 7 (at + 4) st
    unfolding utf8
    text_wrong u = rw (le-leb (at + 4) (length s) h, ← e, le-leb (at + 4 + n) (length s) k, ← q, u)

    pub text_right : automaton.utf8 (take x (drop (at + 4) s)) ≡ true → arrive (text_at s at >>= λ t next. ok (string t) next) st ≡ put (6 ∷ (at + 4) ∷ n ∷ []) n (at + 4 + n) st
    unfolding utf8
    text_right u =
        let l : length (take x (drop (at + 4) s)) ≡ x = length-take-le x (drop (at + 4) s) (omega (arith, length-drop (at + 4) s)) in
        rw (le-leb (at + 4) (length s) h, ← e, le-leb (at + 4 + n) (length s) k, ← q, u, l)

-- A reader is not refused if its test says so
pub not_refused : {b : Bool} (r : Reader) → (b ≡ true) ↔ (r.refusal ≡ 0 → ⊥) → b ≡ false → r.refusal ≡ 0
not_refused r h e = go (eqb (r.refusal) 0) refl
  where
    go : (a : Bool) → eqb (r.refusal) 0 ≡ a → r.refusal ≡ 0
    go true k = eqb-true _ _ k
    go false k = absurd (false≢true (sym e ∙ h.1 (eqb-false _ _ k)))
