-- Either the whole text is ASCII, or it is walked from where ASCII ends, or from its start if it is short.
use Rattle.std.proofs.Common.{◌∙◌, eq-eqb}
use Rattle.std.proofs.lemmas.List.{take_rest}
use Rattle.text.proofs.Exact.{both}
use Rattle.text.proofs.Blocks.{ascii_utf8, finished, answered}
use Rattle.text.proofs.is_utf8.Goals as goal

pub returns-then-is_ascii_short : goal.returns-then-is_ascii_short
returns-then-is_ascii_short c =
    let t = c.if-is_ascii_short.true in
    let told = both c.args.s.now (t ∙ ascii_utf8 _ (c.is_ascii_short.ensures t)) in
    record { value = told.0; variant = told.1 }

pub returns-else-is_ascii_short : goal.returns-else-is_ascii_short
returns-else-is_ascii_short c =
    let told = both c.args.s.now (finished c.args.s.now _ c.walk_bytes.ensures) in
    record { value = told.0; variant = told.1 }

pub returns-then-ascii-s : goal.returns-then-ascii-s
returns-then-ascii-s c =
    let s = c.args.s.now in
    let whole = c.if-ascii-s.true in
    let told = both s (eq-eqb _ _ whole ∙ ascii_utf8 s (rw whole at c.ascii_prefix-ascii.ensures.1)) in
    record { value = told.0; variant = told.1 }

pub returns-else-ascii-s : goal.returns-else-ascii-s
returns-else-ascii-s c =
    let s = c.args.s.now in
    let a = c.ascii_prefix-ascii.ensures in
    let told = both s (answered s _ _ a.0 a.1 (rw take_rest at c.walk_over.ensures)) in
    record { value = told.0; variant = told.1 }
