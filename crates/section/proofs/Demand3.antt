-- The reading of a section meets demand 3, and nothing else does.
use Prim.Native.Nat.{ℕ, ◌+◌, ◌≤◌}
use native.Mathlib.Omega.{arith}
use mathlib.Core.List.{List, ◌++◌, append_assoc}
use mathlib.Core.Path.{◌≡◌, ap}
use lib.ListN.{length, replicate, replicate-append-replicate}
use Rattle.layout.specs.Reading.{Outcome, ok, refuse, ◌>>=◌}
use Rattle.layout.specs.Entities.{Entity}
use Rattle.layout.specs.Answers.{limit, Given}
use Rattle.layout.specs.ReadAlone.{through_table}
use Rattle.layout.specs.Theorems.{Bytes}
use Rattle.layout.proofs.Walk.{all_bind}
use Rattle.layout.proofs.Judges.{payload_upto}
use Rattle.layout.proofs.Alone.{Finds, exact, exact_only, told}
use Rattle.framing.specs.Refusals.{BadBoundary, few_remain, length_zero, length_long, too_long, bad_boundary}
use Rattle.section.specs.Derivation.{Derivation, Placed, entries, given_of}
use Rattle.section.specs.Section.{read_section, section_given, reading}
use Rattle.section.specs.Refusals.{SectionRefusal, bad_framing, bad_payload}
use Rattle.section.specs.Demand3.{Good, gives}
use Rattle.section.specs.Theorems.{ReadingMeets, ReadingOnly, ReadingTold, TableFree, PaddingFree}
use Rattle.section.proofs.Derivation.{derivation_unique}
use Rattle.section.proofs.Section.{section_complete, section_sound}
use Rattle.section.proofs.Refusals.{refusal_exact}
use Rattle.layout.proofs.Walk as walks

-- A refusal's number is one of 1 to 12
boundary_numbered : {s : List ℕ} {at n : ℕ} → BadBoundary s at n → (1 ≤ n) × (n ≤ 12)
boundary_numbered (few_remain h k z) = omega arith
boundary_numbered (length_zero h z) = omega arith
boundary_numbered (length_long h k) = omega arith

pub refusal_numbered : (s : List ℕ) (n p : ℕ) → SectionRefusal s n p → (1 ≤ n) × (n ≤ 12)
refusal_numbered s n p (bad_framing (too_long h)) = omega arith
refusal_numbered s n p (bad_framing (bad_boundary h b f)) = boundary_numbered f
refusal_numbered s n p (bad_payload h b) = omega (arith, payload_upto Entity b.is)

-- What the reading finds is what a derivation gives
finds : (s : List ℕ) → Bytes s → Finds (Good s) gives (SectionRefusal s) (section_given s)
finds s u = record {
  complete = λ d g. (length (entries d.items), rw (section_complete s d g));
  sound = all_bind (read_section s) _ (section_sound s u) λ es end h. walks.given (h.0, h.1, ap given_of h.2);
  refuses = λ n p. (λ e. (refusal_exact s u n p).0 (refused_there (read_section s) e), λ h. rw ((refusal_exact s u n p).1 h));
  numbered = refusal_numbered s;
}
  where
    refused_there : {n p : ℕ} (m : Outcome ℕ (List Placed)) → (m >>= λ es end. ok (given_of es) end) ≡ refuse n p → m ≡ refuse n p
    refused_there (ok es end) e = let z : ◌≡◌ {A = ℕ} 0 1 = cc in absurd (omega arith)
    refused_there (refuse n p) e = cc

pub reading_meets : ReadingMeets
unfolding reading
reading_meets s u table = record { exact = exact (Good s) gives (SectionRefusal s) (section_given s) (finds s u) table; unique = λ d f p q. derivation_unique s d f p q }

pub reading_only : ReadingOnly
unfolding reading
reading_only s u table r t = exact_only (Good s) gives (SectionRefusal s) (section_given s) (finds s u) table r t.exact

pub reading_told : ReadingTold
unfolding reading
reading_told s u table = told (Good s) gives (SectionRefusal s) (section_given s) (finds s u) table

tell_free : (m : Outcome ℕ Given) (table other : List ℕ) → length table ≡ length other → through_table m table ≡ through_table m other
tell_free (ok g end) table other e = rw e
tell_free (refuse n p) table other e = rw e

pub table_free : TableFree
unfolding reading
table_free s table other e = tell_free (section_given s) table other e

-- More padding derives more zeros
more_padding : (s : List ℕ) (d : Derivation) → Good s d → (k : ℕ) → length (s ++ replicate k 0) ≤ limit
    → Good (s ++ replicate k 0) (record { items = d.items; padding = d.padding + k })
more_padding s d g k h =
    record {
      small = h;
      by = record { proper = g.by.proper; derives = rw (← g.by.derives, append_assoc, replicate-append-replicate) };
    }

pub padding_free : PaddingFree
unfolding reading
padding_free s d g k h table = rw (section_complete (s ++ replicate k 0) _ (more_padding s d g k h), section_complete s d g)
