-- `run` follows `read`.
use Prim.Native.Nat.{ℕ, ◌+◌, ◌≤◌, ◌<◌}
use native.Mathlib.Omega.{arith}
use mathlib.Core.Bool.{Bool, true, false}
use mathlib.Core.List.{List, [], ◌∷◌}
use mathlib.Core.Path.{◌≡◌, refl, sym, ap, subst, ◌∙◌}
use lib.Dec.{leb, ltb, eqb}
use lib.ListN.{length, get_or, take, drop, length-append, length-drop}
use lib.Seq.{length-take-le}
use borrow.Author.Tests.{eq-eqb, eqb-true, eqb-false, le-leb, lt-leb, leb-true, leb-false}
use Rattle.layout.specs.Layout.{Layout, Sort, Kind, Tag, Flag, Number, Count, Leaf, plain, string, Fault, unknown_kind, unknown_tag, other_mapping, error_result, Verdict, refusal_of, one, case}
use Rattle.layout.specs.Written.{plain_bytes, leaf_bytes, bytes_of, row_at}
use Rattle.layout.specs.Reading.{Outcome, ok, refuse, ◌>>=◌, need, utf8, enough, number_at, plain_at, body_at, text_at, in_bytes, read_value, read}
use Rattle.layout.specs.Answers.{limit}
use Rattle.layout.proofs.Forms.{case_law}
use Rattle.layout.proofs.Follow.{Gait, Keeps, push_all, follow}
use Rattle.layout.proofs.Follow as layout
use Rattle.layout.specs.Machine.{drive}
use Rattle.reading.specs.State.{ReadState, stop, put, arrive, guarded, read_plain, read_text}
use Rattle.reading.specs.Run.{reader, run}
use Rattle.reading.specs.Theorems.{arrive_all, Follows, moved, stops, RunRead}
use Rattle.reading.proofs.Still.{Refused, halt, reader_still, pass_refused, run_refused}
use Rattle.reading.proofs.Table.{push, arrive_all_length}

pub arrive_all_at : (ls : List Leaf) (st : ReadState) → (arrive_all ls st).cursor.at ≡ st.cursor.at + length (bytes_of ls)
arrive_all_at [] st = omega arith
arrive_all_at (x ∷ ls) st = arrive_all_at ls (push x st) ∙ omega (arith, length-append (leaf_bytes x) (bytes_of ls))

pub arrive_all_refusal : (ls : List Leaf) (st : ReadState) → (arrive_all ls st).cursor.refusal ≡ st.cursor.refusal
arrive_all_refusal [] st = refl
arrive_all_refusal (x ∷ ls) st = arrive_all_refusal ls (push x st)

-- The number of a fault is not 0
refusal_not_0 : (f : Fault) → refusal_of f ≡ 0 → ⊥
refusal_not_0 unknown_kind e = omega arith
refusal_not_0 unknown_tag e = omega arith
refusal_not_0 other_mapping e = omega arith
refusal_not_0 error_result e = omega arith

-- How a cursor with its table moves through bytes
abbrev gait : (s : List ℕ) → Gait (in_bytes s) ReadState
gait s = record {
  at = λ st. st.cursor.at;
  Going = λ st. st.cursor.refusal ≡ 0;
  push = push;
  Stops = λ st r n p. (r.cursor.refusal ≡ n) × (n ≡ 0 → ⊥) × (r.cursor.at ≡ p) × (length r.table ≡ length st.table);
}

halt_stops : (f : Fault) (begin st : ReadState) → st.cursor.refusal ≡ 0 → (gait []).Stops st (halt (refusal_of f) begin.cursor.at st) (refusal_of f) begin.cursor.at
halt_stops f begin st z =
    let e : halt (refusal_of f) begin.cursor.at st ≡ stop (refusal_of f) begin.cursor.at st = rw (eq-eqb st.cursor.refusal 0 z) in
    (ap (λ (x : ReadState). x.cursor.refusal) e, refusal_not_0 f, ap (λ (x : ReadState). x.cursor.at) e, ap (λ (x : ReadState). length x.table) e)

pub moved_of : {st r : ReadState} {ls : List Leaf} {next : ℕ} → Follows st r (ok ls next) → (r ≡ arrive_all ls st) × (r.cursor.at ≡ next)
moved_of (moved h) = h

pub stops_of : {st r : ReadState} {n p : ℕ} → Follows st r (refuse n p) → (r.cursor.refusal ≡ n) × (n ≡ 0 → ⊥) × (r.cursor.at ≡ p) × (length r.table ≡ length st.table)
stops_of (stops h) = h

-- The outcome of reading a leaf: a step of the leaf's width, or a refusal
data Strides (at w : ℕ) : Outcome ℕ ℕ → Type 0 where
  far : {v next : ℕ} → next ≡ at + w → Strides at w (ok v next)
  not : {n p : ℕ} → (n ≡ 0 → ⊥) → Strides at w (refuse n p)

strides_need : (b : Bool) (at w n p : ℕ) (rest : Outcome ℕ ℕ) → (n ≡ 0 → ⊥) → Strides at w rest → Strides at w (need b n p rest)
strides_need true at w n p rest h k = k
strides_need false at w n p rest h k = not h

strides : (s : List ℕ) (srt : Sort) (at n : ℕ) → Strides at (length (plain_bytes srt n)) (plain_at s srt at)
strides s Kind at n = strides_need (enough s at 1) at 1 5 at (ok (get_or s at 0) (at + 1)) (λ e. omega arith) (far refl)
strides s Tag at n = strides_need (enough s at 1) at 1 5 at (ok (get_or s at 0) (at + 1)) (λ e. omega arith) (far refl)
strides s Flag at n =
    strides_need (enough s at 1) at 1 5 at (need (ltb (get_or s at 0) 2) 6 at (ok (get_or s at 0) (at + 1))) (λ e. omega arith)
    (strides_need (ltb (get_or s at 0) 2) at 1 6 at (ok (get_or s at 0) (at + 1)) (λ e. omega arith) (far refl))
strides s Number at n = strides_need (enough s at 4) at 4 5 at (ok (number_at s at) (at + 4)) (λ e. omega arith) (far refl)
strides s Count at n = strides_need (enough s at 4) at 4 5 at (ok (number_at s at) (at + 4)) (λ e. omega arith) (far refl)

far_of : {at w v next : ℕ} → Strides at w (ok v next) → next ≡ at + w
far_of (far e) = e

not_of : {at w n p : ℕ} → Strides at w (refuse n p) → n ≡ 0 → ⊥
not_of (not h) = h

abbrev FollowsText : (s : List ℕ) → ReadState → Outcome ℕ (List ℕ) → Type 0
FollowsText s st g = layout.Follows (gait s) st (arrive (g >>= λ t next. ok (string t) next) st) (g >>= λ t end. ok (string t ∷ []) end)

module _ (s : List ℕ) (small : length s ≤ limit) where
  goes_on : (st out : ReadState) → st.cursor.refusal ≡ 0 → guarded s out st ≡ out
  unfolding guarded
  goes_on st out z = rw (eq-eqb st.cursor.refusal 0 z, le-leb (length s) limit small)

  plain_follows : (srt : Sort) (st : ReadState) → st.cursor.refusal ≡ 0 → layout.Follows (gait s) st (read_plain srt s st) (plain_at s srt st.cursor.at >>= λ n end. ok (plain srt n ∷ []) end)
  unfolding read_plain
  plain_follows srt st z =
      subst (λ (r : ReadState). layout.Follows (gait s) st r (plain_at s srt st.cursor.at >>= λ n end. ok (plain srt n ∷ []) end)) (sym (goes_on st _ z))
      (go (plain_at s srt st.cursor.at) (λ n. strides s srt st.cursor.at n))
    where
      go : (g : Outcome ℕ ℕ) → ((n : ℕ) → Strides st.cursor.at (length (plain_bytes srt n)) g) → layout.Follows (gait s) st (arrive (g >>= λ n next. ok (plain srt n) next) st) (g >>= λ n end. ok (plain srt n ∷ []) end)
      go (ok v next) h =
          layout.moved {ls = plain srt v ∷ []} {next = next}
          (ap (λ (x : ℕ). put (row_at st.cursor.at (plain srt v)) v x st) (far_of (h v)), refl)
      go (refuse n p) h = layout.stops (refl, not_of (h 0), refl, refl)

  text_valid : (b : Bool) (st : ReadState) (n : ℕ) → st.cursor.at + 4 + n ≤ length s → FollowsText s st (need b 7 (st.cursor.at + 4) (ok (take n (drop (st.cursor.at + 4) s)) (st.cursor.at + 4 + n)))
  text_valid true st n h =
      let at = st.cursor.at in
      let t = take n (drop (at + 4) s) in
      let l : length t ≡ n = length-take-le n (drop (at + 4) s) (omega (arith, length-drop (at + 4) s)) in
      layout.moved {ls = string t ∷ []} {next = at + 4 + n}
      (ap (λ (x : ℕ). put (row_at at (string t)) (length t) x st) (omega arith), refl)
  text_valid false st n h = layout.stops (refl, (λ e. omega arith), refl, refl)

  text_fits : (b : Bool) (st : ReadState) (n : ℕ) → enough s (st.cursor.at + 4) n ≡ b
      → FollowsText s st (need b 5 (st.cursor.at + 4) (need (utf8 (take n (drop (st.cursor.at + 4) s))) 7 (st.cursor.at + 4) (ok (take n (drop (st.cursor.at + 4) s)) (st.cursor.at + 4 + n))))
  text_fits true st n e = text_valid (utf8 (take n (drop (st.cursor.at + 4) s))) st n (leb-true (st.cursor.at + 4 + n) (length s) e)
  text_fits false st n e = layout.stops (refl, (λ e. omega arith), refl, refl)

  text_follows : (st : ReadState) → st.cursor.refusal ≡ 0 → layout.Follows (gait s) st (read_text s st) (text_at s st.cursor.at >>= λ t end. ok (string t ∷ []) end)
  unfolding read_text
  text_follows st z =
      subst (λ (r : ReadState). layout.Follows (gait s) st r (text_at s st.cursor.at >>= λ t end. ok (string t ∷ []) end)) (sym (goes_on st _ z))
      (go (enough s st.cursor.at 4))
    where
      go : (b : Bool) → FollowsText s st (need b 5 st.cursor.at (ok (number_at s st.cursor.at) (st.cursor.at + 4)) >>= λ n at₁. body_at s n at₁)
      go true = text_fits (enough s (st.cursor.at + 4) (number_at s st.cursor.at)) st (number_at s st.cursor.at) refl
      go false = layout.stops (refl, (λ e. omega arith), refl, refl)

  reader_keeps : Keeps (in_bytes s) (reader s) (gait s)
  unfolding read read_value
  reader_keeps = record {
    still = reader_still s;
    going = λ x st z. z;
    value = λ srt n st. refl;
    plainly = plain_follows;
    textly = text_follows;
    verdict = λ A j st. refl;
    halts = halt_stops;
    stopped = λ h z. h.1 (sym h.0 ∙ z);
    before = λ x st r n p h. (h.0, h.1, h.2, h.3 ∙ arrive_all_length (x ∷ []) st);
  }

push_all_arrive : (ls : List Leaf) (st : ReadState) → push_all push ls st ≡ arrive_all ls st
push_all_arrive [] st = refl
push_all_arrive (x ∷ ls) st = push_all_arrive ls (push x st)

pub run_read : RunRead
unfolding read read_value
run_read s small L st z = go (follow (in_bytes s) (reader s) (gait s) (reader_keeps s small) L st z)
  where
    go : {o : Outcome ℕ (List Leaf)} → layout.Follows (gait s) st (run L s st) o → Follows st (run L s st) o
    go (layout.moved {ls = ls} {next = next} h) = moved {ls = ls} {next = next} (h.0 ∙ push_all_arrive ls st, h.1)
    go (layout.stops h) = stops h

-- With too many bytes, a layout that begins with a leaf is refused
plain_long : (srt : Sort) (s : List ℕ) (st : ReadState) → limit < length s → st.cursor.refusal ≡ 0 → stop 1 0 st ≡ run (one srt) s st
unfolding drive read_plain guarded
plain_long srt s st h k = rw (eq-eqb _ _ k, lt-leb (length s) limit h)

case_long : (srt : Sort) (A : Layout) (j : ℕ → Verdict) (B : ℕ → Layout) (s : List ℕ) (st : ReadState) → limit < length s → st.cursor.refusal ≡ 0 → run (case srt A j B) s st ≡ stop 1 0 st
case_long srt A j B s st h k =
    let x = stop 1 0 st in
    let n = st.cursor.value in
    let w : Refused x = λ e. omega arith in
    case_law srt A j B (reader s) st x (plain_long srt s st h k)
    ∙ rw (run_refused A s x w, pass_refused s (j n) st x w) (run_refused (B n) s x w)

-- A layout that begins with a leaf, and was not refused, was read
pub case_read : (srt : Sort) (A : Layout) (j : ℕ → Verdict) (B : ℕ → Layout) (s : List ℕ) (st : ReadState)
    → (run (case srt A j B) s st).cursor.refusal ≡ 0 → (ls : List Leaf) × (next : ℕ) × (read (case srt A j B) s st.cursor.at ≡ ok ls next)
case_read srt A j B s st z = begun (eqb st.cursor.refusal 0) refl
  where
    outcome : (o : Outcome ℕ (List Leaf)) → Follows st (run (case srt A j B) s st) o → read (case srt A j B) s st.cursor.at ≡ o
        → (ls : List Leaf) × (next : ℕ) × (read (case srt A j B) s st.cursor.at ≡ ok ls next)
    outcome (ok ls next) f e = (ls, next, e)
    outcome (refuse n p) f e = let (a, b, q, l) = stops_of f in absurd (b (sym a ∙ z))

    sized : (b : Bool) → leb (length s) limit ≡ b → st.cursor.refusal ≡ 0 → (ls : List Leaf) × (next : ℕ) × (read (case srt A j B) s st.cursor.at ≡ ok ls next)
    sized true e k = outcome (read (case srt A j B) s st.cursor.at) (run_read s (leb-true _ _ e) (case srt A j B) st k) refl
    sized false e k = let q : ◌≡◌ {A = ℕ} 1 0 = sym (ap (λ (x : ReadState). x.cursor.refusal) (case_long srt A j B s st (leb-false _ _ e) k)) ∙ z in absurd (omega arith)

    begun : (b : Bool) → eqb st.cursor.refusal 0 ≡ b → (ls : List Leaf) × (next : ℕ) × (read (case srt A j B) s st.cursor.at ≡ ok ls next)
    begun true e = sized (leb (length s) limit) refl (eqb-true _ _ e)
    begun false e =
        let w : Refused st = eqb-false _ _ e in
        absurd (w (sym (ap (λ (x : ReadState). x.cursor.refusal) (run_refused (case srt A j B) s st w)) ∙ z))
