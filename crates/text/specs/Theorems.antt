-- The theorems about the definitions, as statements. Each comment names the proof, in proofs/Exact.antt if nothing else is said.
use Rattle.std.specs.Prelude.{◌≡◌, ℕ, ◌≤◌, true, ◌↔◌, List, ◌++◌, length, take}
use Rattle.text.specs.Rfc3629.{Utf8}
use Rattle.text.specs.Walk.{State, wanted_after, utf8}
use Rattle.text.specs.Kept.{most_kept, ServerKeeps, kept_length, TextAnswer, check_text, ExactCheck}
use Rattle.text.specs.Colons.{Colons, colons_after}

-- The test is true exactly for what RFC 3629's grammar derives: `utf8_exact`
abbrev pub Utf8Exact : Type 0
Utf8Exact = (l : List ℕ) → (utf8 l ≡ true) ↔ Utf8 l

-- The server keeps this many bytes of a name and no other number: `kept_exact` in Kept.antt
abbrev pub KeptExact : Type 0
KeptExact = (t : List ℕ) (k : ℕ) → (k ≡ kept_length t) ↔ ServerKeeps t k

-- A name of at most 63 bytes is kept whole: `kept_whole` in Kept.antt
abbrev pub KeptWhole : Type 0
KeptWhole = (t : List ℕ) → Utf8 t → length t ≤ most_kept → kept_length t ≡ length t

-- What is kept is the longest beginning of a name that is UTF-8 and has at most 63 bytes: `kept_longest` in Kept.antt
abbrev pub KeptLongest : Type 0
KeptLongest =
    (t : List ℕ)
    → (Utf8 (take (kept_length t) t)) × (length (take (kept_length t) t) ≤ most_kept)
    × ((first rest : List ℕ) → t ≡ first ++ rest → Utf8 first → length first ≤ most_kept → length first ≤ length (take (kept_length t) t))

-- The two forms of the answer for bytes are one: `check_exact` in Kept.antt
abbrev pub CheckExact : Type 0
CheckExact = (t : List ℕ) (a : TextAnswer) → (a ≡ check_text t) ↔ ExactCheck t a

-- Walking over two parts is walking over the first, and from there over the second: `wanted_append`
abbrev pub WantedAppend : Type 0
WantedAppend = (q : State) (l m : List ℕ) → wanted_after q (l ++ m) ≡ wanted_after (wanted_after q l) m

-- The same of the pairs of colons: `colons_append` in Colons.antt
abbrev pub ColonsAppend : Type 0
ColonsAppend = (p : Colons) (l m : List ℕ) → colons_after p (l ++ m) ≡ colons_after (colons_after p l) m
