-- Another number, or the last byte.
use native.Mathlib.Omega.{arith}
use Rattle.framing.proofs.Sentinel.{told, head_there, last_there, other_head, by_last}
use Rattle.framing.proofs.is_sentinel.Goals as goal

pub returns-then-from_le_bytes-eq-SENTINEL_HEAD : goal.returns-then-from_le_bytes-eq-SENTINEL_HEAD
returns-then-from_le_bytes-eq-SENTINEL_HEAD c =
    let p = c.args.payload.now in
    let i = c.in-Some-default-len1 in
    let (h, t, l) = i.ensures.cases in
    let told = told p _ (by_last p _ (head_there p _ _ h t _ c.from_le_bytes.ensures) (λ i h. omega (arith, c.type_inv.payload i)) (omega (arith, l, i.len_at_least, i.len_below)) c.if-from_le_bytes-eq-SENTINEL_HEAD.true _ (last_there p _ _ h t)) in
    record { value = told.0; variant = told.1 }

pub returns-else-from_le_bytes-eq-SENTINEL_HEAD : goal.returns-else-from_le_bytes-eq-SENTINEL_HEAD
returns-else-from_le_bytes-eq-SENTINEL_HEAD c =
    let p = c.args.payload.now in
    let (h, t, l) = c.in-Some-default-len1.ensures.cases in
    let told = told p _ (other_head p _ (head_there p _ _ h t _ c.from_le_bytes.ensures) c.if-from_le_bytes-eq-SENTINEL_HEAD.false) in
    record { value = told.0; variant = told.1 }
