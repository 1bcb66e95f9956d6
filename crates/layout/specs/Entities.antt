-- The layouts of the nine entities and of their parts (docs/FORMAT.md, Entities to Declarations), in the order of
-- `decode_entity` and of the `read_` functions of src/section.rs, and named after them. The comment on a part names its field,
-- that on a tag its variant.
use Rattle.std.specs.Prelude.{ℕ, cond, ◌||◌, List, [], ◌∷◌, eqb, get_or}
use Rattle.layout.specs.Layout.{Leaf, values_of, Verdict, fine, wrong, other_mapping, error_result, Layout, nothing, text, ◌then◌, check}
use Rattle.layout.specs.Forms.{number, flag, list, may, Tags, ◌⇒◌, kinds, tags, tags_after}

-- O: an optional text
unfoldable pub OptionStr : Layout
OptionStr = may text

-- An optional number
unfoldable pub OptionU32 : Layout
OptionU32 = may number

-- A list of texts
unfoldable pub StrList : Layout
StrList = list text

-- Each number is present even if its flag is 0
unfoldable pub Numeric : Layout
Numeric =
    flag  -- has_precision
    then number  -- precision
    then flag  -- has_scale
    then number  -- scale

-- The tags of an array's mapping
abbrev pub sql_array_mappings : Tags
sql_array_mappings =
    1 ⇒ text  -- As
    ∷ 3 ⇒ Numeric  -- Numeric
    ∷ 4 ⇒ nothing  -- Composite
    ∷ []

-- An array's mapping
unfoldable pub SqlArrayMapping : Layout
SqlArrayMapping = tags sql_array_mappings

-- The tags of a mapping
abbrev pub sql_mappings : Tags
sql_mappings =
    1 ⇒ text  -- As
    ∷ 2 ⇒ SqlArrayMapping  -- Array
    ∷ 3 ⇒ Numeric  -- Numeric
    ∷ 4 ⇒ nothing  -- Composite
    ∷ 5 ⇒ nothing  -- Skip
    ∷ []

-- A mapping
unfoldable pub SqlMapping : Layout
SqlMapping = tags sql_mappings

-- The columns of a table
unfoldable pub SqlMappingList : Layout
SqlMappingList = list SqlMapping

-- The tags of what is returned
abbrev pub returns_tags : Tags
returns_tags =
    1 ⇒ SqlMapping  -- One
    ∷ 2 ⇒ SqlMapping  -- SetOf
    ∷ 3 ⇒ SqlMappingList  -- Table
    ∷ []

-- What is returned
unfoldable pub Returns : Layout
Returns = tags returns_tags

-- The tags of an argument-side error
abbrev pub argument_errors : Tags
argument_errors =
    1 ⇒ nothing  -- SetOf
    ∷ 2 ⇒ nothing  -- Table
    ∷ 3 ⇒ nothing  -- NestedArray
    ∷ 4 ⇒ nothing  -- BareU8
    ∷ 5 ⇒ nothing  -- SkipInArray
    ∷ 6 ⇒ nothing  -- Datum
    ∷ 7 ⇒ text  -- NotValidAsArgument
    ∷ []

-- Why a type is not valid as an argument
unfoldable pub ArgumentError : Layout
ArgumentError = tags argument_errors

-- The tags of an argument-side result
abbrev pub argument_results : Tags
argument_results =
    1 ⇒ SqlMapping  -- Ok
    ∷ 2 ⇒ ArgumentError  -- Err
    ∷ []

-- The argument-side result
unfoldable pub ArgumentSql : Layout
ArgumentSql = tags argument_results

-- The tags of a return-side error
abbrev pub returns_errors : Tags
returns_errors =
    1 ⇒ nothing  -- NestedSetOf
    ∷ 2 ⇒ nothing  -- NestedTable
    ∷ 3 ⇒ nothing  -- NestedArray
    ∷ 4 ⇒ nothing  -- SetOfContainingTable
    ∷ 5 ⇒ nothing  -- TableContainingSetOf
    ∷ 6 ⇒ nothing  -- SetOfInArray
    ∷ 7 ⇒ nothing  -- TableInArray
    ∷ 8 ⇒ nothing  -- BareU8
    ∷ 9 ⇒ nothing  -- SkipInArray
    ∷ 10 ⇒ nothing  -- Datum
    ∷ []

-- Why a type is not valid as a return
unfoldable pub ReturnsError : Layout
ReturnsError = tags returns_errors

-- The tags of a return-side result
abbrev pub return_results : Tags
return_results =
    1 ⇒ Returns  -- Ok
    ∷ 2 ⇒ ReturnsError  -- Err
    ∷ []

-- The return-side result
unfoldable pub ReturnSql : Layout
ReturnSql = tags return_results

-- The tags of a positioning ref
abbrev pub positioning_refs : Tags
positioning_refs =
    1 ⇒ text  -- FullPath
    ∷ 2 ⇒ text  -- Name
    ∷ []

-- A positioning ref
unfoldable pub PositioningRef : Layout
PositioningRef = tags positioning_refs

-- A list of positioning refs
unfoldable pub PositioningRefList : Layout
PositioningRefList = list PositioningRef

-- To-SQL
unfoldable pub ToSqlConfig : Layout
ToSqlConfig =
    flag  -- enabled
    then OptionStr  -- content

-- The tags of a type's origin
abbrev pub type_origins : Tags
type_origins =
    1 ⇒ nothing  -- ThisExtension
    ∷ 2 ⇒ nothing  -- External
    ∷ []

-- A type's origin
unfoldable pub TypeOrigin : Layout
TypeOrigin = tags type_origins

-- The resolution of a type: its name and origin
unfoldable pub Resolution : Layout
Resolution =
    text  -- type_ident
    then TypeOrigin  -- type_origin

-- An optional resolution
unfoldable pub OptionResolution : Layout
OptionResolution = may Resolution

-- The metadata record
unfoldable pub FunctionMetadataType : Layout
FunctionMetadataType =
    OptionResolution  -- resolution
    then ArgumentSql  -- argument_sql
    then ReturnSql  -- return_sql

-- A used type
unfoldable pub UsedType : Layout
UsedType =
    text  -- ty_source
    then text  -- full_path
    then OptionStr  -- composite_type
    then flag  -- variadic
    then OptionStr  -- default
    then flag  -- optional
    then FunctionMetadataType  -- metadata

-- An optional used type
unfoldable pub OptionUsedType : Layout
OptionUsedType = may UsedType

-- A function's argument
unfoldable pub PgExternArgument : Layout
PgExternArgument =
    text  -- pattern
    then UsedType  -- used_ty

-- A function's arguments
unfoldable pub PgExternArgumentList : Layout
PgExternArgumentList = list PgExternArgument

-- A type of an aggregate. An item of an iterated return, with its name and ty, has the same layout
unfoldable pub AggregateType : Layout
AggregateType =
    OptionStr  -- name
    then UsedType  -- used_ty

-- A list of such types
unfoldable pub AggregateTypeList : Layout
AggregateTypeList = list AggregateType

-- An optional list of such types
unfoldable pub OptionAggregateTypeList : Layout
OptionAggregateTypeList = may AggregateTypeList

-- The tags of a function's return
abbrev pub pg_extern_returns : Tags
pg_extern_returns =
    1 ⇒ nothing  -- None
    ∷ 2 ⇒ UsedType  -- Type
    ∷ 3 ⇒ UsedType  -- SetOf
    ∷ 4 ⇒ AggregateTypeList  -- Iterated
    ∷ 5 ⇒ nothing  -- Trigger
    ∷ []

-- A function's return
unfoldable pub PgExternReturn : Layout
PgExternReturn = tags pg_extern_returns

-- The tags of a function's attribute
abbrev pub extern_args : Tags
extern_args =
    1 ⇒ nothing  -- CreateOrReplace
    ∷ 2 ⇒ nothing  -- Immutable
    ∷ 3 ⇒ nothing  -- Strict
    ∷ 4 ⇒ nothing  -- Stable
    ∷ 5 ⇒ nothing  -- Volatile
    ∷ 6 ⇒ nothing  -- Raw
    ∷ 7 ⇒ nothing  -- NoGuard
    ∷ 8 ⇒ nothing  -- SecurityDefiner
    ∷ 9 ⇒ nothing  -- SecurityInvoker
    ∷ 10 ⇒ nothing  -- ParallelSafe
    ∷ 11 ⇒ nothing  -- ParallelUnsafe
    ∷ 12 ⇒ nothing  -- ParallelRestricted
    ∷ 13 ⇒ text  -- ShouldPanic
    ∷ 14 ⇒ text  -- Schema
    ∷ 15 ⇒ PositioningRef  -- Support
    ∷ 16 ⇒ text  -- Name
    ∷ 17 ⇒ text  -- Cost
    ∷ 18 ⇒ PositioningRefList  -- Requires
    ∷ []

-- A function's attribute
unfoldable pub ExternArg : Layout
ExternArg = tags extern_args

-- A function's attributes
unfoldable pub ExternArgList : Layout
ExternArgList = list ExternArg

-- An optional search path
unfoldable pub SearchPath : Layout
SearchPath = may StrList

-- An operator
unfoldable pub Operator : Layout
Operator =
    OptionStr  -- opname
    then OptionStr  -- commutator
    then OptionStr  -- negator
    then OptionStr  -- restrict
    then OptionStr  -- join
    then flag  -- hashes
    then flag  -- merges

-- An optional operator
unfoldable pub OptionOperator : Layout
OptionOperator = may Operator

-- The tags of a cast
abbrev pub casts : Tags
casts =
    1 ⇒ nothing  -- Default
    ∷ 2 ⇒ nothing  -- Assignment
    ∷ 3 ⇒ nothing  -- Implicit
    ∷ []

-- A cast
unfoldable pub Cast : Layout
Cast = tags casts

-- An optional cast
unfoldable pub OptionCast : Layout
OptionCast = may Cast

-- The value of the i-th of some leaves, from 0
abbrev pub value_in : List Leaf → ℕ → ℕ
value_in ls i = get_or (values_of ls) i 0

-- The verdict on an argument-side result from its first two tags: the first is the result's; if that is Ok, the second is the
-- mapping's, which must be As or Numeric
abbrev pub as_or_numeric : ℕ → ℕ → Verdict
as_or_numeric result mapping =
    cond (eqb result 1) (cond (eqb mapping 1 || eqb mapping 3) fine (wrong other_mapping)) (wrong error_result)

-- The same, from the values of the leaves
abbrev pub result_verdict : List ℕ → Verdict
result_verdict values = as_or_numeric (get_or values 0 0) (get_or values 1 0)

-- A declaration's result
unfoldable pub DeclaredSql : Layout
DeclaredSql = check ArgumentSql result_verdict

-- What follows the name of a declared type or enum
unfoldable pub DeclaredType : Layout
DeclaredType =
    text  -- type_ident
    then DeclaredSql  -- sql

-- The kinds of a declaration
abbrev pub sql_declareds : Tags
sql_declareds =
    1 ⇒ DeclaredType  -- Type
    ∷ 2 ⇒ DeclaredType  -- Enum
    ∷ 3 ⇒ nothing  -- Function
    ∷ []

-- A declaration: its kind, then its name; only then is the kind judged
unfoldable pub SqlDeclared : Layout
SqlDeclared = tags_after text sql_declareds

-- A list of declarations
unfoldable pub SqlDeclaredList : Layout
SqlDeclaredList = list SqlDeclared

-- What a final function may modify
abbrev pub finalize_modifies : Tags
finalize_modifies =
    1 ⇒ nothing  -- ReadOnly
    ∷ 2 ⇒ nothing  -- Shareable
    ∷ 3 ⇒ nothing  -- ReadWrite
    ∷ []

-- Whether an aggregate's final function modifies its state
unfoldable pub FinalizeModify : Layout
FinalizeModify = tags finalize_modifies

-- The same, optional
unfoldable pub OptionFinalizeModify : Layout
OptionFinalizeModify = may FinalizeModify

-- The tags of an aggregate's parallel option
abbrev pub parallel_options : Tags
parallel_options =
    1 ⇒ nothing  -- Safe
    ∷ 2 ⇒ nothing  -- Restricted
    ∷ 3 ⇒ nothing  -- Unsafe
    ∷ []

-- Whether an aggregate may run in parallel
unfoldable pub ParallelOption : Layout
ParallelOption = tags parallel_options

-- The same, optional
unfoldable pub OptionParallelOption : Layout
OptionParallelOption = may ParallelOption

-- 1: schema
unfoldable pub Schema : Layout
Schema =
    text  -- module_path
    then text  -- name
    then text  -- file
    then number  -- line

-- 2: custom SQL
unfoldable pub CustomSql : Layout
CustomSql =
    text  -- sql
    then text  -- module_path
    then text  -- full_path
    then text  -- file
    then number  -- line
    then text  -- name
    then flag  -- bootstrap
    then flag  -- finalize
    then PositioningRefList  -- requires
    then SqlDeclaredList  -- creates

-- 3: function
unfoldable pub Function : Layout
Function =
    text  -- name
    then text  -- unaliased_name
    then text  -- module_path
    then text  -- full_path
    then PgExternArgumentList  -- fn_args
    then PgExternReturn  -- fn_return
    then OptionStr  -- schema
    then text  -- file
    then number  -- line
    then ExternArgList  -- extern_attrs
    then SearchPath  -- search_path
    then OptionOperator  -- operator
    then OptionCast  -- cast
    then ToSqlConfig  -- to_sql_config

-- 4: type
unfoldable pub PostgresType : Layout
PostgresType =
    text  -- name
    then text  -- file
    then number  -- line
    then text  -- module_path
    then text  -- full_path
    then text  -- type_ident
    then text  -- in_fn_path
    then text  -- out_fn_path
    then OptionStr  -- receive_fn_path
    then OptionStr  -- send_fn_path
    then ToSqlConfig  -- to_sql_config
    then OptionU32  -- alignment

-- 5: enum
unfoldable pub PostgresEnum : Layout
PostgresEnum =
    text  -- name
    then text  -- file
    then number  -- line
    then text  -- module_path
    then text  -- full_path
    then text  -- type_ident
    then StrList  -- variants
    then ToSqlConfig  -- to_sql_config

-- 6 and 7: ord, hash
unfoldable pub OrdOrHash : Layout
OrdOrHash =
    text  -- name
    then text  -- file
    then number  -- line
    then text  -- full_path
    then text  -- module_path
    then text  -- type_ident
    then ToSqlConfig  -- to_sql_config

-- 8: aggregate
unfoldable pub Aggregate : Layout
Aggregate =
    text  -- full_path
    then text  -- module_path
    then text  -- file
    then number  -- line
    then text  -- name
    then flag  -- ordered_set
    then AggregateTypeList  -- args
    then OptionAggregateTypeList  -- direct_args
    then AggregateType  -- stype
    then text  -- sfunc
    then OptionStr  -- finalfunc
    then OptionFinalizeModify  -- finalfunc_modify
    then OptionStr  -- combinefunc
    then OptionStr  -- serialfunc
    then OptionStr  -- deserialfunc
    then OptionStr  -- initcond
    then OptionStr  -- msfunc
    then OptionStr  -- minvfunc
    then OptionUsedType  -- mstype
    then OptionStr  -- mfinalfunc
    then OptionFinalizeModify  -- mfinalfunc_modify
    then OptionStr  -- minitcond
    then OptionStr  -- sortop
    then OptionParallelOption  -- parallel
    then flag  -- hypothetical
    then ToSqlConfig  -- to_sql_config

-- 9: trigger
unfoldable pub Trigger : Layout
Trigger =
    text  -- function_name
    then text  -- file
    then number  -- line
    then text  -- module_path
    then text  -- full_path
    then ToSqlConfig  -- to_sql_config

-- The kinds of entities
abbrev pub entity_kinds : Tags
entity_kinds =
    1 ⇒ Schema
    ∷ 2 ⇒ CustomSql
    ∷ 3 ⇒ Function
    ∷ 4 ⇒ PostgresType
    ∷ 5 ⇒ PostgresEnum
    ∷ 6 ⇒ OrdOrHash  -- ord
    ∷ 7 ⇒ OrdOrHash  -- hash
    ∷ 8 ⇒ Aggregate
    ∷ 9 ⇒ Trigger
    ∷ []

-- One entity: its kind, then a value for each part of that kind's layout
unfoldable pub Entity : Layout
Entity = kinds entity_kinds
