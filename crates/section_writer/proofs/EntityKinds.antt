-- The kind of an entity is its first leaf, and no other leaf is a kind.
use Prim.Native.Nat.{ℕ, zero, suc, ◌+◌}
use mathlib.Core.Bool.{Bool, true, false, cond}
use mathlib.Core.List.{List, [], ◌∷◌}
use native.Mathlib.Omega.{arith}
use mathlib.Core.Path.{◌≡◌, refl}
use lib.Dec.{eqb}
use Rattle.layout.specs.Layout.{Sort, Kind, Tag, Flag, Number, Count, Leaf, Verdict, Layout, nothing, one, text, ◌then◌, case, check, Value, leaves}
use Rattle.layout.specs.Forms.{times, list, may, only_if, Tags, tags, tags_after, follows}
use Rattle.layout.specs.Entities.{OptionStr, OptionU32, StrList, Numeric, SqlArrayMapping, SqlMapping, SqlMappingList, Returns, ArgumentError, ArgumentSql, ReturnsError, ReturnSql, PositioningRef, PositioningRefList, ToSqlConfig}
use Rattle.layout.specs.Entities.{TypeOrigin, Resolution, OptionResolution, FunctionMetadataType, UsedType, OptionUsedType, PgExternArgument, PgExternArgumentList, AggregateType, AggregateTypeList, OptionAggregateTypeList, PgExternReturn, ExternArg, ExternArgList, SearchPath, Operator, OptionOperator, Cast, OptionCast}
use Rattle.layout.specs.Entities.{DeclaredSql, DeclaredType, SqlDeclared, SqlDeclaredList, FinalizeModify, OptionFinalizeModify, ParallelOption, OptionParallelOption, Schema, CustomSql, Function, PostgresType, PostgresEnum, OrdOrHash, Aggregate, Trigger, entity_kinds, Entity}
use Rattle.layout.proofs.Each.{Each, each_join}
use Rattle.writing.specs.Refusals.{Along}
use Rattle.storing.specs.Storing.{NoKind, KindFirst}

-- Not the sort of a kind
data Other : Sort → Type 0 where
  tag : Other Tag
  flag_sort : Other Flag
  number_sort : Other Number
  count : Other Count

-- A layout without a kind
data Kindless : Layout → Type 0 where
  none : Kindless nothing
  leaf : {srt : Sort} → Other srt → Kindless (one srt)
  a_text : Kindless text
  both : {A B : Layout} → Kindless A → Kindless B → Kindless (A then B)
  cases : {srt : Sort} {A : Layout} {j : ℕ → Verdict} {B : ℕ → Layout} → Other srt → Kindless A → ((n : ℕ) → Kindless (B n)) → Kindless (case srt A j B)
  checked : {A : Layout} {j : List ℕ → Verdict} → Kindless A → Kindless (check A j)

data AllKindless : Tags → Type 0 where
  end : AllKindless []
  row : {n : ℕ} {L : Layout} {rows : Tags} → Kindless L → AllKindless rows → AllKindless ((n, L) ∷ rows)

in_times : {L : Layout} → Kindless L → (n : ℕ) → Kindless (times n L)
in_times k zero = none
in_times k (suc n) = both k (in_times k n)

in_list : {L : Layout} → Kindless L → Kindless (list L)
in_list k = cases count none (in_times k)

in_only : {L : Layout} → Kindless L → (n : ℕ) → Kindless (only_if L n)
in_only k zero = none
in_only k (suc n) = k

in_may : {L : Layout} → Kindless L → Kindless (may L)
in_may k = cases flag_sort none (in_only k)

in_follows : {rows : Tags} → AllKindless rows → (n : ℕ) → Kindless (follows rows n)
in_follows end n = none
in_follows (row {n = m} {L = L} {rows = rows} h k) n = go (eqb n m) h (in_follows k n)
  where
    go : (b : Bool) → Kindless L → Kindless (follows rows n) → Kindless (cond b L (follows rows n))
    go true x y = x
    go false x y = y

in_tags : {rows : Tags} → AllKindless rows → Kindless (tags rows)
in_tags k = cases tag none (in_follows k)

in_after : {L : Layout} {rows : Tags} → Kindless L → AllKindless rows → Kindless (tags_after L rows)
in_after h k = cases tag h (in_follows k)

ruleset kindless = (none, leaf, tag, flag_sort, number_sort, count, a_text, both, checked, in_list, in_may, in_tags, in_after, end, row)

mapping : Kindless SqlMapping
unfolding SqlMapping SqlArrayMapping Numeric
mapping = search kindless depth 60

metadata : Kindless FunctionMetadataType
unfolding FunctionMetadataType OptionResolution Resolution TypeOrigin ArgumentSql ArgumentError ReturnSql Returns SqlMappingList ReturnsError
metadata = search (kindless, mapping) depth 100 fits 100000

used : Kindless UsedType
unfolding UsedType OptionStr
used = search (kindless, metadata) depth 100 fits 100000

attribute : Kindless ExternArgList
unfolding ExternArgList ExternArg PositioningRefList PositioningRef
attribute = search kindless depth 100 fits 100000

function : Kindless Function
unfolding Function PgExternArgumentList PgExternArgument PgExternReturn AggregateTypeList AggregateType OptionStr SearchPath StrList OptionOperator Operator OptionCast Cast ToSqlConfig
function = search (kindless, used, attribute) depth 100 fits 100000

entities : AllKindless entity_kinds
unfolding Schema CustomSql PositioningRefList PositioningRef SqlDeclaredList SqlDeclared DeclaredType DeclaredSql ArgumentSql ArgumentError PostgresType PostgresEnum OrdOrHash Aggregate Trigger OptionUsedType AggregateTypeList AggregateType OptionAggregateTypeList OptionFinalizeModify FinalizeModify OptionParallelOption ParallelOption OptionStr OptionU32 StrList ToSqlConfig
entities = search (kindless, mapping, used, function) depth 300 fits 1000000

not_kind : {srt : Sort} → Other srt → srt ≡ Kind → ⊥
not_kind tag e = let z : ◌≡◌ {A = ℕ} 0 1 = cc in omega arith
not_kind flag_sort e = let z : ◌≡◌ {A = ℕ} 0 1 = cc in omega arith
not_kind number_sort e = let z : ◌≡◌ {A = ℕ} 0 1 = cc in omega arith
not_kind count e = let z : ◌≡◌ {A = ℕ} 0 1 = cc in omega arith

kindless_leaves : {L : Layout} → Kindless L → (v : Value L) → Each NoKind (leaves L v)
kindless_leaves none v = tt
kindless_leaves (leaf o) n = (not_kind o, tt)
kindless_leaves a_text t = (tt, tt)
kindless_leaves (both {A} {B} h k) v = each_join NoKind (leaves A v.0) (leaves B v.1) (kindless_leaves h v.0) (kindless_leaves k v.1)
kindless_leaves (cases {A = A} {B = B} o h k) v = (not_kind o, each_join NoKind (leaves A v.1) (leaves (B v.0) v.2) (kindless_leaves h v.1) (kindless_leaves (k v.0) v.2))
kindless_leaves (checked h) v = kindless_leaves h v

along_of : (ls : List Leaf) (i : ℕ) → Each NoKind ls → Along (λ k x. NoKind x) i ls
along_of [] i h = tt
along_of (x ∷ ls) i h = (h.0, along_of ls (i + 1) h.1)

pub kind_first : (v : Value Entity) → KindFirst (leaves Entity v)
unfolding Entity
kind_first v =
    let others = leaves (follows entity_kinds v.0) v.2 in
    record { kind = v.0; others = others; first = refl; none = along_of others 1 (kindless_leaves (in_follows entities v.0) v.2) }
