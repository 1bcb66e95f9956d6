-- The theorems about the definitions, as statements. Each comment names the proof, in proofs/.
use Rattle.std.specs.Prelude.{ℕ, List}
use Rattle.layout.specs.Theorems.{Bytes}
use Rattle.framing.specs.Answers.{entry_payloads, ExactFraming}

-- The framing alone meets its contract: `exact_framing` in Refusals.antt
abbrev pub FramingExact : Type 0
FramingExact = (s : List ℕ) → Bytes s → ExactFraming s (entry_payloads s)
