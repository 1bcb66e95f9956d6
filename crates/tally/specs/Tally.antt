-- The tally of whole-section readings (docs/FORMAT.md, The tally).
use Rattle.std.specs.Prelude.{ℕ, ◌+◌, cond, ltb}
use Rattle.layout.specs.Answers.{Answer}
use Rattle.tally.specs.declared.Tally.{Tally}

-- Where a count stops
abbrev pub most : ℕ
most = 4294967295

-- A count increased by one, unless it has stopped
abbrev pub one_more : ℕ → ℕ
one_more n = cond (ltb n most) (n + 1) most

-- A tally of no readings
abbrev pub no_readings : Tally
no_readings = record { accepted = 0; refused = 0 }

-- A tally with one more answer, counted as accepted or refused
abbrev pub tallied : Tally → Answer → Tally
tallied t a =
    cond a.accepts
    (record { accepted = one_more t.accepted; refused = t.refused })
    (record { accepted = t.accepted; refused = one_more t.refused })
