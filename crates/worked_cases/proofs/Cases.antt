-- The worked cases, by computation.
use Prim.Native.Nat.{ℕ, zero, suc}
use native.Mathlib.Omega.{arith}
use mathlib.Core.Bool.{Bool, true, ◌&&◌, and-eq-true_iff}
use mathlib.Core.List.{List, [], ◌∷◌}
use mathlib.Core.Path.{◌≡◌, refl}
use lib.Dec.{ltb, leb}
use lib.ListN.{length}
use borrow.Author.Tests.{ltb-true, leb-true}
use Rattle.text.specs.Rfc3629.{none}
use Rattle.decimal.specs.Decimal.{decimal}
use Rattle.layout.specs.Entities.{Entity, Schema, FunctionMetadataType, OptionResolution, ArgumentSql, ReturnSql, Returns, SqlMapping}
use Rattle.layout.specs.Reading.{walk, utf8, read_value, read, refuse}
use Rattle.layout.specs.Answers.{limit}
use Rattle.layout.specs.ReadAlone.{read_alone, reading_alone}
use Rattle.layout.specs.Theorems.{Bytes}
use Rattle.writing.specs.Writing.{wholly, spelled, measured_as, within, measured, write}
use Rattle.section.specs.Derivation.{Derivation, derive, ProperItems}
use Rattle.framing.specs.Framing.{boundary, boundaries, framing_from, framing}
use Rattle.section.specs.Refusals.{SectionRefusal}
use Rattle.section.specs.Section.{read_entity, read_payload, read_payloads, read_section, reading}
use Rattle.section.specs.Demand3.{Good}
use Rattle.section.proofs.Refusals.{refusal_exact}
use Rattle.listing.specs.Listing.{lent_table, further, line, row_lines, lines, listing}
use Rattle.worked_cases.specs.Cases.{empty_schema, skip_and_one_of_skip, cases, CasesHold}

-- Numbers that are bytes, by a test
abbrev below : List ℕ → Bool
below [] = true
below (b ∷ s) = ltb b 256 && below s

are_bytes : (s : List ℕ) → below s ≡ true → Bytes s
are_bytes [] e i h = absurd (omega arith)
are_bytes (b ∷ s) e zero h = ltb-true b 256 ((and-eq-true_iff (ltb b 256) (below s)).0 e).0
are_bytes (b ∷ s) e (suc i) h = are_bytes s ((and-eq-true_iff (ltb b 256) (below s)).0 e).1 i (omega arith)

-- A section that is refused meets the refusal's condition
meets : (s : List ℕ) (n p : ℕ) → below s ≡ true → read_section s ≡ refuse n p → SectionRefusal s n p
meets s n p b e = (refusal_exact s (are_bytes s b) n p).0 e

-- A derivation that derives a section
good : (s : List ℕ) (d : Derivation) → leb (length s) limit ≡ true → ProperItems d.items → derive d ≡ s → Good s d
good s d l p e = record { small = leb-true _ _ l; by = record { proper = p; derives = e } }

pub cases_hold : CasesHold
unfolding cases empty_schema skip_and_one_of_skip decimal Entity Schema FunctionMetadataType OptionResolution ArgumentSql ReturnSql Returns SqlMapping walk utf8 read_value read read_alone reading_alone wholly spelled measured_as measured within write boundary boundaries framing_from framing read_entity read_payload read_payloads read_section reading lent_table further line row_lines lines listing
cases_hold = (
  refl,
  good _ _ refl (((omega arith, tt, refl, ((none, omega arith), ((none, omega arith), ((none, omega arith), omega arith)))), omega arith), tt) refl,
  (
    refl,
    good _ _ refl tt refl,
    (
      refl,
      good _ _ refl tt refl,
      (
        refl,
        good _ _ refl tt refl,
        (
          refl,
          good _ _ refl (tt, tt) refl,
          (
            refl,
            meets _ 2 0 refl refl,
            (
              refl,
              meets _ 3 0 refl refl,
              (
                refl,
                meets _ 4 0 refl refl,
                (
                  refl,
                  meets _ 8 4 refl refl,
                  (
                    refl,
                    meets _ 2 5 refl refl,
                    (
                      refl,
                      meets _ 12 21 refl refl,
                      (
                        refl,
                        (record { small = omega arith; proper = ((omega arith, tt, refl, tt), ((omega arith, tt, refl, (omega arith, tt, refl, tt)), (omega arith, tt, refl, (omega arith, tt, refl, (omega arith, tt, refl, tt))))); derives = refl }, refl),
                        (
                          refl,
                          tt,
                          (refl, tt, tt),
                        ),
                      ),
                    ),
                  ),
                ),
              ),
            ),
          ),
        ),
      ),
    ),
  ),
)
