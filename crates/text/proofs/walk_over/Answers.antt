-- x is the code of the state after the blocks so far, whether a block was walked or skipped.
use Rattle.std.proofs.Common.{◌≡◌, ℕ, ◌+◌, ◌*◌, ◌/◌, ◌<◌, List, [], length, get_or, take, drop, arith}
use Rattle.std.proofs.Math.Seq.{take-add}
use Rattle.std.proofs.lemmas.List.{take-append-drop}
use Rattle.std.specs.Simd.{first_chunks}
use Rattle.text.specs.Private.{Reaches}
use Rattle.text.proofs.Blocks.{passed, onward, chunk_at}
use Rattle.text.proofs.walk_over.Goals as goal
use Rattle.text.proofs.walk_over.Goals.{then-x-ne-START, else-x-ne-START+else-not-is_ascii}

-- One block more
block_on : (s : List ℕ) (k : ℕ) {q x r : ℕ} (blocks : List (List ℕ)) → blocks ≡ first_chunks 64 (length s / 64) s → k < length s / 64
    → Reaches (take (k * 64) s) q x → Reaches (get_or blocks k []) x r → Reaches (take ((k + 1) * 64) s) q r
block_on s k blocks b h f g =
    let n : (k + 1) * 64 ≡ k * 64 + 64 = omega arith in
    rw (n, take-add (k * 64) 64 s) (onward (take (k * 64) s) (take 64 (drop (k * 64) s)) f (rw (b, chunk_at 64 (length s / 64) s k [] h) at g))

pub loop-block-preserved : goal.loop-block-preserved
loop-block-preserved c =
    let s = c.args.s.now in
    let k = c.loop-block.block-index in
    let chunks = c.as_chunks.ensures in
    let within : k < length s / 64 = omega (arith, chunks.front_len) in
    elim c.if-x-ne-START.branch [
      | then-x-ne-START w ↦ rw w.x-is (block_on s k _ chunks.front within c.loop-block.invariant w.walk_bytes-x.ensures)
      | else-x-ne-START+else-not-is_ascii w ↦ rw w.x-is (block_on s k _ chunks.front within c.loop-block.invariant (passed _ _ w.if-x-ne-START.false (w.is_ascii.ensures w.if-not-is_ascii.false)))
    ]

pub returns : goal.returns
returns c =
    let s = c.args.s.now in
    let chunks = c.as_chunks.ensures in
    let k = c.loop-block.block-index in
    let all : k ≡ length s / 64 = omega (arith, chunks.front_len) in
    rw take-append-drop at (onward (take (length s / 64 * 64) s) (drop (length s / 64 * 64) s) (rw all at c.loop-block.invariant) (rw chunks.back at c.walk_bytes.ensures))
