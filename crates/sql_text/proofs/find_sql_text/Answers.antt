-- Too many bytes, a mapping that is refused, As, Numeric, or another mapping.
use native.Mathlib.Omega.{arith}
use mathlib.Core.Path.{refl}
use Rattle.leaf.specs.Reader.{state_of}
use Rattle.sql_text.proofs.SqlText.{too_long, read_there, tag_there, stop_right, rows_left, as_begins, as_right, numeric_right, other_right}
use Rattle.sql_text.proofs.find_sql_text.Goals as goal

pub returns-then-section-gt-LIMIT-clause-value : goal.returns-then-section-gt-LIMIT-clause-value
returns-then-section-gt-LIMIT-clause-value c = rw c.at.ensures (too_long c.args.section.now c.args.offset c.args.size c.if-section-gt-LIMIT.true)

pub returns-then-reader-ne0-clause-value : goal.returns-then-reader-ne0-clause-value
returns-then-reader-ne0-clause-value c =
    let s = c.args.section.now in
    let new = c.new-reader in
    let end = c.sql_mapping.new.p in
    let h = read_there s c.args.offset new.result c.seek.new.self end new.ensures.bytes new.ensures.state c.seek.ensures.lent c.seek.ensures.state c.sql_mapping.ensures in
    stop_right s c.args.offset c.args.size c.if-section-gt-LIMIT.false (state_of end) h.state c.if-reader-ne0.true

pub overflow_sub-len : goal.overflow_sub-len
overflow_sub-len c =
    let s = c.args.section.now in
    let new = c.new-reader in
    let end = c.sql_mapping.new.p in
    let h = read_there s c.args.offset new.result c.seek.new.self end new.ensures.bytes new.ensures.state c.seek.ensures.lent c.seek.ensures.state c.sql_mapping.ensures in
    as_begins s c.args.offset c.args.size c.if-section-gt-LIMIT.false (state_of end) h.state (λ i k. omega (arith, c.type_inv.section i)) c.if-reader-ne0.false (tag_there s c.args.offset end h c.seen.result c.seen.ensures 1 c.in-1.is)

pub option_in-precision-requires : goal.option_in-precision-requires
option_in-precision-requires c =
    let s = c.args.section.now in
    let new = c.new-reader in
    let end = c.sql_mapping.new.p in
    let h = read_there s c.args.offset new.result c.seek.new.self end new.ensures.bytes new.ensures.state c.seek.ensures.lent c.seek.ensures.state c.sql_mapping.ensures in
    omega (arith, rows_left s c.args.offset c.args.size c.if-section-gt-LIMIT.false (state_of end) h.state)

pub option_in-scale-requires : goal.option_in-scale-requires
option_in-scale-requires c =
    let s = c.args.section.now in
    let new = c.new-reader in
    let end = c.sql_mapping.new.p in
    let h = read_there s c.args.offset new.result c.seek.new.self end new.ensures.bytes new.ensures.state c.seek.ensures.lent c.seek.ensures.state c.sql_mapping.ensures in
    omega (arith, rows_left s c.args.offset c.args.size c.if-section-gt-LIMIT.false (state_of end) h.state)

pub returns-in-1 : goal.returns-in-1
returns-in-1 c =
    let s = c.args.section.now in
    let new = c.new-reader in
    let end = c.sql_mapping.new.p in
    let h = read_there s c.args.offset new.result c.seek.new.self end new.ensures.bytes new.ensures.state c.seek.ensures.lent c.seek.ensures.state c.sql_mapping.ensures in
    let right = as_right s c.args.offset c.args.size c.if-section-gt-LIMIT.false (state_of end) h.state (λ i k. omega (arith, c.type_inv.section i)) c.if-reader-ne0.false (tag_there s c.args.offset end h c.seen.result c.seen.ensures 1 c.in-1.is) in
    rw c.sized.ensures (record { value = right.0; room = right.1 })

pub returns-in-3 : goal.returns-in-3
returns-in-3 c =
    let s = c.args.section.now in
    let new = c.new-reader in
    let end = c.sql_mapping.new.p in
    let h = read_there s c.args.offset new.result c.seek.new.self end new.ensures.bytes new.ensures.state c.seek.ensures.lent c.seek.ensures.state c.sql_mapping.ensures in
    let right = numeric_right s c.args.offset c.args.size c.if-section-gt-LIMIT.false (state_of end) h.state (λ i k. omega (arith, c.type_inv.section i)) c.if-reader-ne0.false (tag_there s c.args.offset end h c.seen.result c.seen.ensures 3 c.in-3.is) _ _ c.option_in-precision.ensures c.option_in-scale.ensures in
    rw c.sized-in-3.ensures (record { value = right.0; room = right.1 })

pub returns-in_default-clause-value : goal.returns-in_default-clause-value
returns-in_default-clause-value c =
    let s = c.args.section.now in
    let new = c.new-reader in
    let end = c.sql_mapping.new.p in
    let h = read_there s c.args.offset new.result c.seek.new.self end new.ensures.bytes new.ensures.state c.seek.ensures.lent c.seek.ensures.state c.sql_mapping.ensures in
    let tag = tag_there s c.args.offset end h c.seen.result c.seen.ensures c.seen.result refl in
    rw c.at-in_default.ensures (other_right s c.args.offset c.args.size c.if-section-gt-LIMIT.false (state_of end) h.state (λ i k. omega (arith, c.type_inv.section i)) c.if-reader-ne0.false (λ x. omega arith) (λ x. omega arith))
