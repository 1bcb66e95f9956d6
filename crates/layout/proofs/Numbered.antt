-- The numbers of the refusals of one value alone.
use Prim.Native.Nat.{ℕ, zero, suc}
use native.Mathlib.Omega.{arith}
use mathlib.Core.Bool.{Bool, true, false, cond}
use mathlib.Core.List.{List, [], ◌∷◌, Memᴰ}
use mathlib.Core.Path.{◌≡◌, refl, ap}
use lib.Dec.{eqb, leb}
use Rattle.layout.specs.Layout.{Fault, unknown_kind, unknown_tag, other_mapping, error_result, refusal_of, fine, wrong, Layout}
use Rattle.layout.specs.Forms.{times, list, may, only_if, Tags, known, follows, tags}
use Rattle.layout.specs.Entities.{Numeric, sql_array_mappings, SqlArrayMapping, sql_mappings, SqlMapping, SqlMappingList, returns_tags, Returns, argument_errors, ArgumentError, argument_results, ArgumentSql}
use Rattle.layout.specs.Entities.{returns_errors, ReturnsError, return_results, ReturnSql, type_origins, TypeOrigin, Resolution, OptionResolution, FunctionMetadataType, Entity}
use Rattle.layout.specs.BadReads.{BadPayload, bad_read, bytes_remain}
use Rattle.layout.specs.Reading.{Outcome, ok, refuse}
use Rattle.layout.specs.Answers.{Answer, refused, Given, whole_rows}
use Rattle.layout.specs.Alone.{RefusalAlone, too_long, bad_payload, payload_numbers, metadata_numbers}
use Rattle.layout.specs.ReadAlone.{through_table, read_alone, reading_alone}
use Rattle.layout.specs.Theorems.{Bytes, MappingBadRead, MetadataBadRead, PayloadNumbered, MetadataNumbered, MappingNumbered}
use Rattle.layout.proofs.Judges.{Judged, Reads, read_numbered, judged}
use Rattle.layout.proofs.Alone.{only_thirteen, refusal_alone}

-- The numbers besides those of the judges satisfy N
record Alone (N : ℕ → Type 0) : Type 0 where
  one : N 1
  reads : Reads N
  twelve : N 12
  thirteen : N 13

module _ (N : ℕ → Type 0) (k : Alone N) (L : Layout) (j : Judged N L) where
  of_payload : {s : List ℕ} {at n p : ℕ} → BadPayload s L at n p → N n
  of_payload (bad_read b) = read_numbered N k.reads j b
  of_payload (bytes_remain h l) = k.twelve

  of_refusal : {s : List ℕ} {n p : ℕ} → RefusalAlone L s n p → N n
  of_refusal (too_long h) = k.one
  of_refusal (bad_payload h b) = of_payload b

  of_answer : (entities : ℕ) (s : List ℕ) → Bytes s → (table : List ℕ) (n p : ℕ) → (reading_alone L entities s table).answer ≡ refused n p → N n
  unfolding reading_alone
  of_answer entities s u table n p = go (read_alone L entities s) refl
    where
      go : (m : Outcome ℕ Given) → read_alone L entities s ≡ m → (through_table m table).answer ≡ refused n p → N n
      go (ok g end) e q = rw (only_thirteen (leb g.leaf_count (whole_rows table)) g table n p q) k.thirteen
      go (refuse a b) e q = let h : a ≡ n = ap (λ (x : Answer). x.number) q in rw (← h) (of_refusal ((refusal_alone L entities s u a b).0 e))

-- A table of tags finds only its own fault
known_wrong : (f g : Fault) (rows : Tags) (n : ℕ) → known f rows n ≡ wrong g → f ≡ g
known_wrong f g [] n e = cc
known_wrong f g (row ∷ rows) n e = go (eqb n row.0) (known_wrong f g rows n) e
  where
    go : (b : Bool) → (known f rows n ≡ wrong g → f ≡ g) → cond b fine (known f rows n) ≡ wrong g → f ≡ g
    go true k q = let z : ◌≡◌ {A = ℕ} 0 1 = cc in absurd (omega arith)
    go false k q = k q

-- The forms of layouts that refuse only with 9
module _ (N : ℕ → Type 0) (nine : N 9) where
  abbrev Follow : Tags → Type 0
  Follow [] = Unit {0}
  Follow (row ∷ rows) = Judged N row.1 × Follow rows

  by_follows : (rows : Tags) → Follow rows → (n : ℕ) → Judged N (follows rows n)
  by_follows [] h n = tt
  by_follows (row ∷ rows) h n = go (eqb n row.0) (by_follows rows h.1 n)
    where
      go : (b : Bool) → Judged N (follows rows n) → Judged N (cond b row.1 (follows rows n))
      go true k = h.0
      go false k = k

  by_tags : (rows : Tags) → Follow rows → Judged N (tags rows)
  by_tags rows h = (tt, λ n f e. rw (← known_wrong unknown_tag f rows n e) nine, by_follows rows h)

  by_times : (L : Layout) → Judged N L → (n : ℕ) → Judged N (times n L)
  by_times L h zero = tt
  by_times L h (suc n) = (h, by_times L h n)

  never : {P : Type 0} (f : Fault) → fine ≡ wrong f → P
  never f e = let z : ◌≡◌ {A = ℕ} 0 1 = cc in absurd (omega arith)

  by_list : (L : Layout) → Judged N L → Judged N (list L)
  by_list L h = (tt, λ n f e. never f e, by_times L h)

  by_may : (L : Layout) → Judged N L → Judged N (may L)
  by_may L h = (tt, λ n f e. never f e, go)
    where
      go : (n : ℕ) → Judged N (only_if L n)
      go zero = tt
      go (suc n) = h

  by_numeric : Judged N Numeric
  unfolding Numeric
  by_numeric = (tt, (tt, (tt, tt)))

  by_array : Judged N SqlArrayMapping
  unfolding SqlArrayMapping
  by_array = by_tags sql_array_mappings (tt, (by_numeric, (tt, tt)))

  by_mapping : Judged N SqlMapping
  unfolding SqlMapping
  by_mapping = by_tags sql_mappings (tt, (by_array, (by_numeric, (tt, (tt, tt)))))

  by_resolution : Judged N OptionResolution
  unfolding OptionResolution Resolution TypeOrigin
  by_resolution = by_may Resolution (tt, by_tags type_origins (tt, (tt, tt)))

  by_argument_error : Judged N ArgumentError
  unfolding ArgumentError
  by_argument_error = by_tags argument_errors (tt, (tt, (tt, (tt, (tt, (tt, (tt, tt)))))))

  by_argument : Judged N ArgumentSql
  unfolding ArgumentSql
  by_argument = by_tags argument_results (by_mapping, (by_argument_error, tt))

  by_returns : Judged N Returns
  unfolding Returns SqlMappingList
  by_returns = by_tags returns_tags (by_mapping, (by_mapping, (by_list SqlMapping by_mapping, tt)))

  by_return : Judged N ReturnSql
  unfolding ReturnSql ReturnsError
  by_return = by_tags return_results (by_returns, (by_tags returns_errors (tt, (tt, (tt, (tt, (tt, (tt, (tt, (tt, (tt, (tt, tt)))))))))), tt))

  by_metadata : Judged N FunctionMetadataType
  unfolding FunctionMetadataType
  by_metadata = (by_resolution, (by_argument, by_return))

abbrev OfPayload : ℕ → Type 0
OfPayload n = Memᴰ n payload_numbers

abbrev OfMetadata : ℕ → Type 0
OfMetadata n = Memᴰ n metadata_numbers

ruleset among = (Memᴰ.head, Memᴰ.tail, refl)

of_metadata : Alone OfMetadata
of_metadata = record { one = search among; reads = record { five = search among; six = search among; seven = search among }; twelve = search among depth 9; thirteen = search among depth 9 }

of_entity : Alone OfPayload
of_entity = record { one = search among; reads = record { five = search among; six = search among; seven = search among }; twelve = search among depth 12; thirteen = search among depth 12 }

of_fault : (f : Fault) → OfPayload (refusal_of f)
of_fault unknown_kind = search among depth 12
of_fault unknown_tag = search among depth 12
of_fault other_mapping = search among depth 12
of_fault error_result = search among depth 12

of_reads : Reads (λ n. Memᴰ n (5 ∷ 6 ∷ 7 ∷ 9 ∷ []))
of_reads = record { five = search among; six = search among; seven = search among }

pub mapping_bad_read : MappingBadRead
mapping_bad_read s at n p b = read_numbered _ of_reads (by_mapping (λ n. Memᴰ n (5 ∷ 6 ∷ 7 ∷ 9 ∷ [])) (search among)) b

pub metadata_bad_read : MetadataBadRead
metadata_bad_read s at n p b = read_numbered _ of_reads (by_metadata (λ n. Memᴰ n (5 ∷ 6 ∷ 7 ∷ 9 ∷ [])) (search among)) b

pub payload_numbered : PayloadNumbered
payload_numbered s u table n p e = of_answer OfPayload of_entity Entity (judged OfPayload of_entity.reads of_fault Entity) 1 s u table n p e

pub metadata_numbered : MetadataNumbered
metadata_numbered s u table n p e = of_answer OfMetadata of_metadata FunctionMetadataType (by_metadata OfMetadata (search among)) 0 s u table n p e

pub mapping_numbered : MappingNumbered
mapping_numbered s u table n p e = of_answer OfMetadata of_metadata SqlMapping (by_mapping OfMetadata (search among)) 0 s u table n p e
