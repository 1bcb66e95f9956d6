-- The bytes of the words so far are ASCII if no bit is collected.
use Rattle.std.proofs.Common.{◌≡◌, ℕ, ◌+◌, ◌*◌, ◌/◌, ◌<◌, List, [], length, get_or, take, drop, length-drop, arith}
use Rattle.std.proofs.lemmas.List.{get_or-take, get_or-drop}
use lib.Bits.{bit_and}
use lib.Seq.{length-take-le}
use Rattle.std.specs.Int.{w32, from_le_bytes}
use Rattle.text.specs.Private.{Ascii}
use Rattle.text.proofs.Blocks.{ascii_join, ascii_part, chunk_at}
use Rattle.text.proofs.Words.{or_none, four_bytes}
use Rattle.text.proofs.high_bits.Goals as goal

-- One word more
word_on : (s : List ℕ) (k r : ℕ) → ((i : ℕ) → get_or s i 0 < 256) → k < length s / 4 → r ≡ from_le_bytes w32 (take 4 (drop (k * 4) s)) → bit_and r 0x8080_8080 ≡ 0 → Ascii s 0 (k * 4) → Ascii s 0 ((k + 1) * 4)
word_on s k r fits h e z f =
    let n : (k + 1) * 4 ≡ k * 4 + 4 = omega arith in
    let w = take 4 (drop (k * 4) s) in
    let at : (i : ℕ) → i < 4 → get_or w i 0 < 256 = λ i l. rw (get_or-take 4 (drop (k * 4) s) i 0 l, get_or-drop (k * 4) s i 0) (fits (k * 4 + i)) in
    let part = ascii_part s (k * 4) 4 (λ i l u. (four_bytes w at).ascii (rw e at z) i l (omega (arith, length-take-le 4 (drop (k * 4) s) (omega (arith, length-drop (k * 4) s))))) (omega arith) in
    rw n (ascii_join s 0 (k * 4) (k * 4) (k * 4 + 4) (omega arith) f part)

pub loop-word-preserved : goal.loop-word-preserved
loop-word-preserved c =
    let s = c.args.s.now in
    let k = c.loop-word.word-index in
    let chunks = c.as_chunks.ensures in
    let within : k < length s / 4 = omega (arith, chunks.front_len) in
    let word : get_or c.as_chunks.result.0.now k [] ≡ take 4 (drop (k * 4) s) = rw chunks.front (chunk_at 4 (length s / 4) s k [] within) in
    λ e. let (p, q) = or_none _ _ e in word_on s k _ (λ i. (c.type_inv.s i).fits) within (rw word at c.from_le_bytes.ensures) q (c.loop-word.invariant p)
