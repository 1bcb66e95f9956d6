-- The tests that come first, or one entry.
use native.Mathlib.Omega.{arith}
use mathlib.Core.Path.{sym, ◌∙◌}
use Rattle.framing.proofs.Entries.{whole_here}
use Rattle.section.specs.Entry.{staged}
use Rattle.leaf.proofs.Leaves.{not_refused}
use Rattle.section.proofs.Next.{entry_refused, entry_too_long, entry_too_many, entry_none, entry_some}
use Rattle.section.proofs.read_entry.Goals as goal

pub returns-then-is_refused-clause-stage : goal.returns-then-is_refused-clause-stage
returns-then-is_refused-clause-stage c =
    let p = c.args.reader.now in
    sym (entry_refused p.s.now (staged p c.args.entities) (c.is_refused.ensures.0 c.if-is_refused.true))

pub returns-then-reader-gt-LIMIT-clause-stage : goal.returns-then-reader-gt-LIMIT-clause-stage
returns-then-reader-gt-LIMIT-clause-stage c =
    let p = c.args.reader.now in
    sym (entry_too_long p.s.now (staged p c.args.entities) (not_refused p c.is_refused.ensures c.if-is_refused.false) c.if-reader-gt-LIMIT.true)

pub returns-then-entities-gt-LIMIT-clause-stage : goal.returns-then-entities-gt-LIMIT-clause-stage
returns-then-entities-gt-LIMIT-clause-stage c =
    let p = c.args.reader.now in
    sym (entry_too_many p.s.now (staged p c.args.entities) (not_refused p c.is_refused.ensures c.if-is_refused.false) c.if-reader-gt-LIMIT.false c.if-entities-gt-LIMIT.true)

pub returns-then-end-at-clause-stage : goal.returns-then-end-at-clause-stage
returns-then-end-at-clause-stage c =
    let p = c.args.reader.now in
    sym (entry_none p.s.now (staged p c.args.entities) (not_refused p c.is_refused.ensures c.if-is_refused.false) c.if-reader-gt-LIMIT.false c.if-entities-gt-LIMIT.false (omega (arith, c.if-end-at.true, c.entry_end-end.ensures)))

pub read_whole_entry-requires-clause-whole : goal.read_whole_entry-requires-clause-whole
read_whole_entry-requires-clause-whole c =
    let p = c.args.reader.now in
    c.entry_end-end.ensures ∙ (whole_here p.s.now p.at (omega (arith, c.if-end-at.false, c.entry_end-end.ensures))).0

pub read_whole_entry-requires-clause-inside : goal.read_whole_entry-requires-clause-inside
read_whole_entry-requires-clause-inside c =
    let p = c.args.reader.now in
    let (e, _, k) = whole_here p.s.now p.at (omega (arith, c.if-end-at.false, c.entry_end-end.ensures)) in
    omega (arith, c.entry_end-end.ensures, e, k)

pub returns-clause-stage : goal.returns-clause-stage
returns-clause-stage c =
    let p = c.args.reader.now in
    c.read_whole_entry.ensures.stage
    ∙ sym (entry_some p.s.now (staged p c.args.entities) (not_refused p c.is_refused.ensures c.if-is_refused.false) c.if-reader-gt-LIMIT.false c.if-entities-gt-LIMIT.false (omega (arith, c.if-end-at.false, c.entry_end-end.ensures)))
