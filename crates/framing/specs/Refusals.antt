-- The refusals 1 to 4 of a section's framing, each under its condition (docs/FORMAT.md, Refusals). Nothing here refers to the
-- reader.
use Rattle.std.specs.Prelude.{ℕ, ◌+◌, ◌≤◌, ◌<◌, List, ◌++◌, ◌≡◌, length, get_or, drop, replicate}
use Rattle.layout.specs.Layout.{Number, one}
use Rattle.layout.specs.Written.{four, Stand}
use Rattle.layout.specs.BadReads.{Stands}
use Rattle.layout.specs.Answers.{limit}
use Rattle.framing.specs.Entries.{framed, Framable}

-- A boundary: the section's start, or the end of an entry. `before` holds the payloads of the entries before it
pub record Boundary (s : List ℕ) (at : ℕ) : Type 0 where
  pub before : List (List ℕ)
  pub framable : Framable before
  pub there : s ≡ framed before ++ drop at s
  pub ends : at ≡ length (framed before)

-- A byte other than zero is at a place or after it
abbrev pub NonZeroFrom : List ℕ → (at : ℕ) → Type 0
NonZeroFrom s at = (i : ℕ) × (at ≤ i) × (i < length s) × (1 ≤ get_or s i 0)

-- 2 to 4, at a boundary
pub data BadBoundary (s : List ℕ) (at : ℕ) : (number : ℕ) → Type 0 where
  -- 2, one to three bytes remain, and not all are zero
  few_remain : at < length s → length s < at + 4 → NonZeroFrom s at → BadBoundary s at 2
  -- 3, the length is 0, and a byte other than zero comes after it
  length_zero : {m : ℕ} → Stand s at (four 0) m → NonZeroFrom s m → BadBoundary s at 3
  -- 4, the length exceeds the bytes after it
  length_long : {n m : ℕ} → Stands s (one Number) at n m → length s < m + n → BadBoundary s at 4

-- A refusal of the framing: 1 first; then 2 to 4 at a bad boundary, of which there is only one: no boundary follows it
pub data FramingRefusal (s : List ℕ) : (number place : ℕ) → Type 0 where
  too_long : limit < length s → FramingRefusal s 1 0
  bad_boundary : {n p : ℕ} → length s ≤ limit → Boundary s p → BadBoundary s p n → FramingRefusal s n p

-- A good framing: entries, then padding, which begins at `end`
pub record WholeFraming (s : List ℕ) (end : ℕ) : Type 0 where
  pub payloads : List (List ℕ)
  pub padding : ℕ
  pub framable : Framable payloads
  pub there : s ≡ framed payloads ++ replicate padding 0
  pub ends : end ≡ length (framed payloads)
