-- The sentinel, or an entity.
use Prim.Native.Nat.{◌+◌}
use native.Mathlib.Omega.{arith}
use Rattle.framing.proofs.Sentinels.{payload_test}
use Rattle.leaf.specs.Reader.{state_of}
use Rattle.section.specs.Entry.{staged}
use Rattle.section.proofs.Entries.{entry_sentinel, entry_entity}
use Rattle.section.proofs.read_whole_entry.Goals as goal

pub returns-then-is_sentinel-clause-stage : goal.returns-then-is_sentinel-clause-stage
returns-then-is_sentinel-clause-stage c =
    let a = c.args in
    let r = c.requires in
    let s = a.reader.now.s.now in
    let test = payload_test s (a.at + 4) a.end (omega (arith, r.whole)) (omega (arith, r.whole, r.inside)) _ c.is_sentinel.ensures.value in
    entry_sentinel s (staged a.reader.now a.entities) a.at a.end r.place r.whole _ test c.if-is_sentinel.true (state_of c.seek.new.self) c.seek.ensures.state

pub returns-clause-stage : goal.returns-clause-stage
returns-clause-stage c =
    let a = c.args in
    let r = c.requires in
    let s = a.reader.now.s.now in
    let test = payload_test s (a.at + 4) a.end (omega (arith, r.whole)) (omega (arith, r.whole, r.inside)) _ c.is_sentinel.ensures.value in
    entry_entity s (staged a.reader.now a.entities) a.at a.end r.place r.whole _ test c.if-is_sentinel.false (state_of c.seek-2.new.self) c.seek-2.ensures.state (state_of c.entity.new.p) c.entity.ensures.state (state_of c.finish.new.self) c.finish.ensures.state
