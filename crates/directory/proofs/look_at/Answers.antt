-- From entry to entry.
use Rattle.std.proofs.Common.{ℕ, ◌≡◌, true, false, List, refl, sym, ap, subst, ◌∙◌}
use Rattle.reading.specs.State.{ReadState}
use Rattle.section.specs.Entry.{stage, staged, read_entry}
use Rattle.leaf.specs.Reader.{state_of}
use Rattle.directory.specs.declared.Boundary.{Boundary}
use Rattle.directory.specs.Private.{Looked, entry_read, seen_after}
use Rattle.directory.proofs.Looking.{looks_start, both_of, nearer, looks_again, looks_end}
use Rattle.directory.proofs.look_at.Goals as goal

pub loop-after-init : goal.loop-after-init
loop-after-init c =
    let s = c.args.reader.now.s.now in
    let first = c.read_entry-entities in (
      first.ensures.lent,
      (
        _,
        refl,
        looks_start s c.args.reader.now.t.now c.requires.small c.args.position _ (first.ensures.stage ∙ ap (λ (st : ReadState). read_entry s (stage st 0)) c.requires.start),
      ),
    )

pub loop-after-smaller : goal.loop-after-smaller
loop-after-smaller c =
    let s = c.args.reader.now.s.now in
    let loop = c.loop-after in
    let (lent, (p, b, looks)) = loop.invariant in
    let q = staged loop.reader loop.entities in
    let read : entry_read loop.before (state_of loop.reader) ≡ true = sym c.is_further.ensures ∙ c.loop-after-test.true in
    let moved = both_of s c.requires.bytes c.requires.small c.args.position p q loop.seen looks (ap (λ (x : Boundary). entry_read x (state_of loop.reader)) b ∙ read) in
    let near = nearer s c.requires.bytes c.requires.small c.args.position p q loop.seen looks moved.0 moved.1 in
    rw (← b) near

pub loop-after-preserved : goal.loop-after-preserved
loop-after-preserved c =
    let s = c.args.reader.now.s.now in
    let loop = c.loop-after in
    let (lent, (p, b, looks)) = loop.invariant in
    let q = staged loop.reader loop.entities in
    let next = c.read_entry-entities-in-loop-after in
    let read : entry_read loop.before (state_of loop.reader) ≡ true = sym c.is_further.ensures ∙ c.loop-after-test.true in
    let same : loop.reader.s.now ≡ s = ap (λ x. x.0) lent in (
      next.ensures.lent ∙ lent,
      (
        q,
        refl,
        looks_again s c.requires.bytes c.requires.small c.args.position p q loop.seen looks (ap (λ (x : Boundary). entry_read x (state_of loop.reader)) b ∙ read) _
            (next.ensures.stage ∙ ap (λ (x : List ℕ). read_entry x q) same) _ (c.seen_after-seen.ensures ∙ ap (λ (x : Boundary). seen_after loop.seen x (record { at = loop.reader.at; entities = loop.entities }) c.args.position) (sym b)),
      ),
    )

pub returns : goal.returns
returns c =
    let s = c.args.reader.now.s.now in
    let loop = c.loop-after in
    let (lent, (p, b, looks)) = loop.invariant in
    let q = staged loop.reader loop.entities in
    let read : entry_read loop.before (state_of loop.reader) ≡ false = sym c.is_further.ensures ∙ c.loop-after-test.false in
    subst (λ (x : Boundary). Looked s c.args.position x.at q loop.seen) b
    (looks_end s c.requires.bytes c.requires.small c.args.position p q loop.seen looks (ap (λ (x : Boundary). entry_read x (state_of loop.reader)) b ∙ read))
