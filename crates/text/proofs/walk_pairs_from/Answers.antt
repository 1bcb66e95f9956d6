-- The low six bits of x are the code of the state after the first i bytes, and no pair is open there.
use Rattle.std.proofs.Common.{◌+◌, ap, ◌∙◌, rules, eq-eqb}
use Rattle.text.specs.Private.{code}
use Rattle.text.specs.Walk.{wanted_after}
use Rattle.text.proofs.Codes.{walked, ended}
use Rattle.text.proofs.Colons.{closed_other, closed_pair, closed_two, last_byte}
use Rattle.text.proofs.walk_pairs_from.Goals as goal

pub returns-then-i-n : goal.returns-then-i-n
returns-then-i-n c =
    let args = c.args in
    let s = args.s.now in
    let loop = c.loop-i in
    let next_of = c.next_of-x in
    record {
      states = λ p e. c.state_of.ensures (wanted_after p s) (ended p s (loop.i + 1) next_of.result (search rules) (walked p s loop.i loop.x next_of.result (search rules) next_of.ensures (loop.invariant.2 p (c.from-x.ensures ∙ ap code e))));
      colons = λ o z. rw (eq-eqb _ 0x3A c.if-c-eq58.true) at (last_byte s o loop.i loop.end (loop.invariant.3 o z) (search rules));
    }

pub loop-i-preserved-then-d-eq58 : goal.loop-i-preserved-then-d-eq58
loop-i-preserved-then-d-eq58 c =
    let s = c.args.s.now in
    let loop = c.loop-i in
    let next_of = c.next_of-x in
    (search rules, search rules, λ p e. walked p s (loop.i + 1) next_of.result _ (search rules) c.next_of-x-then-c-eq58.ensures (walked p s loop.i loop.x next_of.result (search rules) next_of.ensures (loop.invariant.2 p e)), λ o z. closed_pair s o loop.i loop.end (loop.invariant.3 o z) (search rules) c.if-c-eq58.true c.if-d-eq58.true)

pub loop-i-preserved-else-d-eq58 : goal.loop-i-preserved-else-d-eq58
loop-i-preserved-else-d-eq58 c =
    let s = c.args.s.now in
    let loop = c.loop-i in
    let next_of = c.next_of-x in
    (search rules, search rules, λ p e. walked p s (loop.i + 1) next_of.result _ (search rules) c.next_of-x-then-c-eq58.ensures (walked p s loop.i loop.x next_of.result (search rules) next_of.ensures (loop.invariant.2 p e)), λ o z. closed_two s o loop.i loop.end (loop.invariant.3 o z) (search rules) c.if-d-eq58.false)

pub loop-i-preserved : goal.loop-i-preserved
loop-i-preserved c =
    let s = c.args.s.now in
    let loop = c.loop-i in
    (search rules, search rules, λ p e. walked p s loop.i loop.x _ (search rules) c.next_of-x.ensures (loop.invariant.2 p e), λ o z. closed_other s o loop.i loop.end (loop.invariant.3 o z) (search rules) c.if-c-eq58.false)
