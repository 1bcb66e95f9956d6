-- A pair that is open is closed by the first byte, or it makes no difference that it is open.
use Rattle.std.proofs.Common.{◌≡◌, ℕ, true, false, length, sym, refl, ap, ◌∙◌, rules}
use Rattle.text.specs.declared.ColonWalk.{ColonWalk}
use Rattle.text.specs.Walk.{step}
use Rattle.text.specs.States.{state_of}
use Rattle.text.specs.Colons.{Colons, colons_after, unwalked}
use Rattle.text.proofs.Codes.{run_snoc}
use Rattle.text.proofs.Colons.{first_closes, first_other}
use Rattle.text.proofs.walk_colons.Goals as goal
use Rattle.text.proofs.walk_colons.Goals.{else-opened-via-then-opened+else-s-eq58, else-opened-via-else-opened}

-- Two of the promises, from what is known of the pairs
told : (p : Colons) (r : ColonWalk) (n : ℕ) → p ≡ record { opened = r.opened; end = r.end; seen = n } → (r.opened ≡ p.opened) × (r.end ≡ p.end)
told p r n e = (sym (ap (λ (x : Colons). x.opened) e), sym (ap (λ (x : Colons). x.end) e))

pub returns-then-s-eq58 : goal.returns-then-s-eq58
returns-then-s-eq58 c =
    let args = c.args in
    let s = args.s.now in
    let q = state_of args.q in
    let colon = c.if-s-eq58.true in
    let walked = c.walk_pairs.ensures in
    let pairs = told (colons_after (unwalked args.opened) s) c.walk_pairs.result (length s) (rw c.if-opened.true (walked.colons true (first_closes s (search rules) colon))) in
    record {
      state_value = walked.states q (c.after_colon.ensures ∙ ap (step q) (sym colon) ∙ sym (run_snoc q s 0 (search rules)));
      opened_value = pairs.0;
      end_value = pairs.1;
    }

pub returns : goal.returns
returns c =
    let args = c.args in
    let s = args.s.now in
    let walked = c.walk_pairs-2.ensures in
    let alike : colons_after (unwalked args.opened) s ≡ colons_after (unwalked false) s =
    elim c.else-opened.branch [
      | else-opened-via-then-opened+else-s-eq58 w ↦ rw w.if-opened.true (first_other s (search rules) w.if-s-eq58.false)
      | else-opened-via-else-opened w ↦ rw w.if-opened.false
    ] in
    let pairs = told (colons_after (unwalked args.opened) s) c.walk_pairs-2.result (length s) (alike ∙ walked.colons false refl) in
    record { state_value = walked.states (state_of args.q) refl; opened_value = pairs.0; end_value = pairs.1 }
