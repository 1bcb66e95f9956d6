-- The entries of the rows before index i are stored; whatever the others come to, all rows do.
use Prim.Native.Nat.{◌+◌, ◌-◌}
use native.Mathlib.Omega.{arith}
use mathlib.Core.Path.{◌≡◌, ◌∙◌}
use borrow.Author.Rules.{rules}
use Rattle.layout.specs.Answers.{whole_rows}
use Rattle.storing.specs.Private.{length_stored}
use Rattle.storing.specs.Output.{spot_of}
use Rattle.storing.proofs.Rows.{next_above}
use Rattle.storing.proofs.Entries.{ends, full, goes, stores_entries}
use Rattle.storing.proofs.store_entries.Goals as goal

pub returns-then-out-lt4 : goal.returns-then-out-lt4
returns-then-out-lt4 c =
    let a = c.args in
    let x = c.loop-i in
    let q = spot_of x.out in
    let told = stores_entries a.rows.now a.text.now a.dest.now q (x.invariant.2 q (full {i = x.i} {p = q} (omega (arith, x.invariant.1, c.if-out-lt4.true)))) in
    let same = x.invariant.0 in
    λ ls more k g w h l. search (rules, told ls more k g w h l, same)

pub loop-i-smaller : goal.loop-i-smaller
loop-i-smaller c =
    let a = c.args in
    let x = c.loop-i in
    omega (arith, c.loop-i-test.true, c.push_payload-i.ensures.end, next_above a.rows.now (whole_rows a.rows.now - (x.i + 1)) (x.i + 1))

pub loop-i-preserved : goal.loop-i-preserved
loop-i-preserved c =
    let a = c.args in
    let x = c.loop-i in
    let payload = c.push_payload-i in
    let out = payload.new.self in
    let put : c.put_number.new.dest ≡ length_stored x.out.at out.at out.dest.now = c.put_number.ensures in (
      payload.ensures.lent ∙ x.invariant.0,
      search (rules, payload.ensures.within.1),
      λ q h. x.invariant.2 q (goes c.loop-i-test.true payload.ensures.stored (rw (← payload.ensures.end, ← put) h)),
    )

pub returns : goal.returns
returns c =
    let a = c.args in
    let x = c.loop-i in
    let q = spot_of x.out in
    let told = stores_entries a.rows.now a.text.now a.dest.now q (x.invariant.2 q (ends {i = x.i} {p = q} c.loop-i-test.false)) in
    let same = x.invariant.0 in
    λ ls more k g w h l. search (rules, told ls more k g w h l, same)
