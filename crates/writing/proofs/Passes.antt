-- The results of the two passes over the rows, from the contracts of the functions that make them.
use Prim.Native.Nat.{ℕ, ◌≤◌}
use native.Mathlib.Omega.{arith}
use mathlib.Core.Bool.{Bool, true, false, cond}
use mathlib.Core.List.{List, ◌++◌}
use mathlib.Core.Path.{◌≡◌, refl, sym, ap, subst, ◌∙◌}
use lib.Dec.{leb}
use lib.ListN.{length, drop}
use Rattle.layout.specs.Layout.{Layout}
use Rattle.layout.specs.Reading.{Outcome, ok, refuse, need}
use Rattle.table.specs.Answers.{Total, counted, uncounted}
use Rattle.writing.specs.State.{WriteState}
use Rattle.writing.specs.Writing.{spelled, within, measured, write, fitting, length_in, written}
use Rattle.writing.specs.State.{new_writer}
use Rattle.writing.specs.Run.{consume, closing}
use Rattle.writing.specs.Refusals.{Form, alone, Writable, ExactLength, ExactWriting}
use Rattle.writing.proofs.Spelled.{Takes, takes_alone}
use Rattle.writing.proofs.Exact.{measured_by, written_by, writes_only, length_exact, writing_exact, proper_alone}
use Rattle.writing.proofs.Measured.{Reached, closed, consumed_alone}

-- After the length, only 17 is left
within_length : (m : Outcome ℕ (List ℕ)) (size : ℕ) → fitting (length_in m) size ≡ length_in (within size m)
unfolding within
within_length (ok b n) size = fits (leb n size)
  where
    fits : (t : Bool) → cond t (counted n) (uncounted 17 0) ≡ length_in (need t 17 0 (ok b n))
    fits true = refl
    fits false = refl
within_length (refuse n p) size = refl

not_refused : (k n p : ℕ) → counted k ≡ uncounted n p → ⊥
not_refused k n p z = let w : ◌≡◌ {A = ℕ} 0 1 = cc in omega arith

module _ (F : Form) (rows text : List ℕ) (taken : Outcome ℕ F.Content) (k : Takes F rows text taken) (proper : (v : F.Content) → Writable F rows text v → F.Proper v) where
  -- The first pass gives the length
  pub length_passed : (w : WriteState) → Reached rows text (λ v. length (F.bytes v)) w taken → (l : Total) → l ≡ closing rows w
      → (l ≡ length_in (measured_by F rows text taken)) × ExactLength F rows text l
  length_passed w r l e =
      let q : l ≡ length_in (measured_by F rows text taken) = e ∙ closed F.bytes rows text w taken r in
      (q, subst (ExactLength F rows text) (sym q) (length_exact F rows text taken k proper))

  module _ (dest : List ℕ) (m l : Total) (e : m ≡ length_in (measured_by F rows text taken)) (f : l ≡ fitting m (length dest)) where
    -- The length and the destination that the contract of a writing requires
    abbrev pub Encodes : (after : List ℕ) → Type 0
    Encodes after =
        (l ≡ length_in (written_by F rows text taken (length dest)))
        × ((after ≡ written (written_by F rows text taken (length dest)) dest) × ExactWriting F rows text dest l after)

    encodes : (after : List ℕ) → l ≡ length_in (written_by F rows text taken (length dest)) → after ≡ written (written_by F rows text taken (length dest)) dest → Encodes after
    encodes after x y = (x, (y, rw (x, y) (writing_exact F rows text taken k proper dest)))

    whole : l ≡ length_in (written_by F rows text taken (length dest))
    whole = f ∙ ap (λ (x : Total). fitting x (length dest)) e ∙ within_length (measured_by F rows text taken) (length dest)

    -- No second pass
    pub refusal_passed : (n p : ℕ) → l ≡ uncounted n p → Encodes dest
    refusal_passed n p q = go (written_by F rows text taken (length dest)) refl
      where
        go : (o : Outcome ℕ (List ℕ)) → written_by F rows text taken (length dest) ≡ o → Encodes dest
        go (refuse a b) w = encodes dest whole (rw w)
        go (ok b j) w = absurd (not_refused j n p (sym (ap length_in w) ∙ sym whole ∙ q))

    -- The second pass stores the bytes
    pub bytes_passed : (n : ℕ) → l ≡ counted n → (after : List ℕ)
        → ((v : F.Content) → Writable F rows text v → length (F.bytes v) ≤ length dest → after ≡ F.bytes v ++ drop (length (F.bytes v)) dest) → Encodes after
    bytes_passed n q after s = go (written_by F rows text taken (length dest)) refl
      where
        stored : (b : List ℕ) (j : ℕ) → written_by F rows text taken (length dest) ≡ ok b j → after ≡ b ++ drop j dest
        stored b j z =
            let (v, w, x, y, fits) = writes_only F rows text taken k (length dest) b j z in
            let i : j ≡ length (F.bytes v) = y ∙ ap length x in
            let p = s v w (omega arith) in
            cc

        go : (o : Outcome ℕ (List ℕ)) → written_by F rows text taken (length dest) ≡ o → Encodes after
        go (refuse x y) z = absurd (not_refused n x y (sym q ∙ whole ∙ ap length_in z))
        go (ok c j) z = encodes after whole (rw z (stored c j z))

-- One value of a layout: the first pass
pub first_pass : (L : Layout) (rows text : List ℕ) (w r : WriteState) (l : Total) → w ≡ new_writer → r ≡ consume L rows text w → l ≡ closing rows r → (l ≡ length_in (measured L rows text)) × ExactLength (alone L) rows text l
unfolding measured spelled
first_pass L rows text w r l a b e =
    let q : r ≡ consume L rows text new_writer = b ∙ ap (consume L rows text) a in
    length_passed (alone L) rows text _ (takes_alone L rows text) (proper_alone L rows text) (consume L rows text new_writer) (consumed_alone rows text L) l (e ∙ ap (closing rows) q)

module _ (L : Layout) (rows text dest : List ℕ) (m l : Total) (e : m ≡ length_in (measured L rows text)) (f : l ≡ fitting m (length dest)) where
  abbrev pub Encoded : (after : List ℕ) → Type 0
  Encoded after =
      (l ≡ length_in (write L rows text (length dest))) × ((after ≡ written (write L rows text (length dest)) dest) × ExactWriting (alone L) rows text dest l after)

  -- No second pass
  pub refused_whole : (n p : ℕ) → l ≡ uncounted n p → Encoded dest
  unfolding write measured spelled
  refused_whole = refusal_passed (alone L) rows text _ (takes_alone L rows text) (proper_alone L rows text) dest m l e f
