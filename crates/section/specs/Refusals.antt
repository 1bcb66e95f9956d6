-- The refusals 1 to 12 of a section, each under its condition (docs/FORMAT.md, Refusals). Nothing here refers to the reader.
use Rattle.std.specs.Prelude.{ℕ, ◌+◌, ◌≤◌, List, ◌∷◌, ◌++◌, ◌≡◌, length, take, replicate}
use Rattle.layout.specs.BadReads.{BadPayload}
use Rattle.layout.specs.Entities.{Entity}
use Rattle.layout.specs.Answers.{limit}
use Rattle.framing.specs.Entries.{framed, Framable, sentinel_bytes}
use Rattle.framing.specs.Refusals.{FramingRefusal}
use Rattle.section.specs.Derivation.{Item, entries, ProperItems}

-- The first bad payload of a section with a good framing: the items before it, the payload, and the payloads and padding after
-- it
pub record BadEntry (s : List ℕ) (n p : ℕ) : Type 0 where
  pub before : List Item
  pub pay : List ℕ
  pub after : List (List ℕ)
  pub padding : ℕ
  pub proper : ProperItems before
  pub framable : Framable (pay ∷ after)
  pub there : s ≡ entries before ++ (framed (pay ∷ after) ++ replicate padding 0)
  pub other : pay ≡ sentinel_bytes → ⊥
  pub is : BadPayload (take (length (entries before) + 4 + length pay) s) Entity (length (entries before) + 4) n p

-- A refusal of a section: 1 to 4, of its framing; then 5 to 12, in the first bad payload
pub data SectionRefusal (s : List ℕ) : (number place : ℕ) → Type 0 where
  bad_framing : {n p : ℕ} → FramingRefusal s n p → SectionRefusal s n p
  bad_payload : {n p : ℕ} → length s ≤ limit → BadEntry s n p → SectionRefusal s n p
