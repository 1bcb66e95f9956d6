-- From entry to entry, up to a refusal or to where there is no whole entry.
use native.Mathlib.Omega.{arith}
use mathlib.Core.Path.{refl, ap, ◌∙◌}
use Rattle.reading.specs.State.{ReadState}
use Rattle.section.specs.Entry.{stage, staged}
use Rattle.section.proofs.Entries.{come_start, come_end}
use Rattle.section.proofs.Reached.{place, whole, inside, led}
use Rattle.section.proofs.read_entries.Goals as goal

pub loop-at-init : goal.loop-at-init
loop-at-init c = record { come = come_start _ _ c.requires.small _ (ap (λ (st : ReadState). stage st 0) c.requires.start); ends = c.entry_end-end.ensures; lent = refl }

pub read_whole_entry-entities-requires-clause-place : goal.read_whole_entry-entities-requires-clause-place
read_whole_entry-entities-requires-clause-place c = place c.loop-at.invariant c.requires.bytes c.requires.small c.loop-at-test.true

pub read_whole_entry-entities-requires-clause-whole : goal.read_whole_entry-entities-requires-clause-whole
read_whole_entry-entities-requires-clause-whole c = whole c.loop-at.invariant c.requires.bytes c.requires.small c.loop-at-test.true

pub read_whole_entry-entities-requires-clause-inside : goal.read_whole_entry-entities-requires-clause-inside
read_whole_entry-entities-requires-clause-inside c = inside c.loop-at.invariant c.requires.bytes c.requires.small c.loop-at-test.true

pub returns-then-reader-ne0-clause-stage : goal.returns-then-reader-ne0-clause-stage
returns-then-reader-ne0-clause-stage c =
    let entry = c.read_whole_entry-entities in
    let next = led c.loop-at.invariant c.requires.bytes c.requires.small c.loop-at-test.true entry.new.reader entry.result entry.ensures.stage in
    next.refuses c.if-reader-ne0.true

pub loop-at-smaller : goal.loop-at-smaller
loop-at-smaller c =
    let entry = c.read_whole_entry-entities in
    let next = led c.loop-at.invariant c.requires.bytes c.requires.small c.loop-at-test.true entry.new.reader entry.result entry.ensures.stage in
    omega (arith, c.loop-at-test.true, (next.goes c.if-reader-ne0.false).walked.inside)

pub loop-at-preserved : goal.loop-at-preserved
loop-at-preserved c =
    let entry = c.read_whole_entry-entities in
    let next = led c.loop-at.invariant c.requires.bytes c.requires.small c.loop-at-test.true entry.new.reader entry.result entry.ensures.stage in
    record {
      come = next.goes c.if-reader-ne0.false;
      ends = c.entry_end-end-in-loop-at.ensures;
      lent = entry.ensures.lent ∙ c.loop-at.invariant.lent;
    }

pub returns-clause-stage : goal.returns-clause-stage
returns-clause-stage c =
    let p = c.args.reader.now in
    let i = c.loop-at.invariant in
    come_end p.s.now p.t.now c.requires.bytes c.requires.small c.loop-at.at (staged c.loop-at.reader c.loop-at.entities) i.come c.loop-at.end i.ends (omega (arith, c.loop-at-test.false))
