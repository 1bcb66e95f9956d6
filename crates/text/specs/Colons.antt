-- The pairs of colons in a text, found from the left without overlap, by a walk over its bytes (docs/FORMAT.md, Texts, SQL names and SQL texts).
use Rattle.std.specs.Prelude.{ℕ, ◌+◌, Bool, true, false, cond, List, ◌==◌}
use mathlib.Core.List.{foldl}

-- What a walk knows of the pairs: whether one is open, that is, begun by a colon and not yet closed by a second one; where the
-- last one ended, 0 if there was none; and how many bytes were walked
pub record Colons : Type 0 where
  pub opened : Bool
  pub end : ℕ
  pub seen : ℕ

-- After one more byte: a colon closes the pair that is open, or opens one; any other byte leaves none open
unfoldable pub colon_step : Colons → ℕ → Colons
colon_step p b =
    cond (b == 0x3A)
    (cond p.opened (record { opened = false; end = p.seen + 1; seen = p.seen + 1 }) (record { opened = true; end = p.end; seen = p.seen + 1 }))
    (record { opened = false; end = p.end; seen = p.seen + 1 })

-- After the bytes of l
abbrev pub colons_after : Colons → List ℕ → Colons
colons_after p l = foldl colon_step p l

-- Before the first byte, with a pair open or not
abbrev pub unwalked : Bool → Colons
unwalked opened = record { opened = opened; end = 0; seen = 0 }
