-- No whole entry, or the test of its payload.
use Prim.Native.Nat.{ℕ, ◌+◌}
use lib.ListN.{take, drop}
use mathlib.Core.Path.{sym, ap, ◌∙◌}
use native.Mathlib.Omega.{arith}
use borrow.Author.Tests.{le-ltb}
use Rattle.raw_bytes.specs.Bytes.{same}
use Rattle.framing.specs.Entries.{sentinel_bytes}
use Rattle.framing.proofs.Entries.{whole_at}
use Rattle.framing.proofs.Sentinels.{payload_test, sentinel_none, sentinel_some}
use Rattle.framing.proofs.sentinel_at.Goals as goal

pub overflow_add-at : goal.overflow_add-at
overflow_add-at c = let w = whole_at _ _ _ c.entry_end-end.ensures c.if-at-end.true in omega (arith, w.0, w.1)

pub slice_bounds-is_sentinel-count : goal.slice_bounds-is_sentinel-count
slice_bounds-is_sentinel-count c = let w = whole_at _ _ _ c.entry_end-end.ensures c.if-at-end.true in omega (arith, w.0, w.1)

pub slice_bounds-is_sentinel-start : goal.slice_bounds-is_sentinel-start
slice_bounds-is_sentinel-start c = let w = whole_at _ _ _ c.entry_end-end.ensures c.if-at-end.true in omega (arith, w.0, w.1)

pub slice_bounds-is_sentinel-end : goal.slice_bounds-is_sentinel-end
slice_bounds-is_sentinel-end c = let w = whole_at _ _ _ c.entry_end-end.ensures c.if-at-end.true in omega (arith, w.0, w.1)

pub returns-then-at-end : goal.returns-then-at-end
returns-then-at-end c =
    let s = c.args.s.now in
    let at = c.args.at in
    let e = c.entry_end-end.ensures in
    let w = whole_at s at _ e c.if-at-end.true in
    payload_test s (at + 4) c.entry_end-end.result w.0 (omega (arith, w.0, w.1)) _ c.is_sentinel.ensures.value
    ∙ ap (λ (n : ℕ). same (drop (at + 4) (take n s)) sentinel_bytes) e
    ∙ sym (sentinel_some s at (omega (arith, c.if-at-end.true, e)))

pub returns-else-at-end : goal.returns-else-at-end
returns-else-at-end c =
    let s = c.args.s.now in
    le-ltb _ _ c.if-at-end.false ∙ sym (sentinel_none s c.args.at (omega (arith, c.if-at-end.false, c.entry_end-end.ensures)))
