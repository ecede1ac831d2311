-- Drafts of tables, and the causes for which drafts stand for no schema.
use Rattle.std.specs.Prelude.{◌≡◌, ◌≢◌, ◌⊎◌, ℕ, ◌+◌, ◌<◌, ◌≤◌, List, [], ◌∷◌, ◌++◌, Option, map, length, take, slice_get, codes}
use Rattle.std.specs.declared.option.Option.TheVariants.{None, Some}
use Rattle.std.specs.List.{Any, position_or_len}
use Rattle.std.specs.List.Sorted.{IsPermutation}
use Rattle.value_dm.specs.declared.kind.Kind.{Kind}
use Rattle.schema_dm.specs.declared.draft.Column.{Column}
use Rattle.schema_dm.specs.declared.draft.ForeignDraft.{ForeignDraft}
use Rattle.schema_dm.specs.declared.draft.TableDraft.{TableDraft}
use Rattle.schema_dm.specs.declared.refusal.SchemaCause.{SchemaCause}
use Rattle.schema_dm.specs.declared.refusal.SchemaCause.TheVariants.{NoTable, TooManyTables, BadName, NoColumn, TooManyColumns, DuplicateTable, DuplicateColumn, UnknownColumn, UnknownTable, TwoPrimaryKeys, NotAKey, KindMismatch, SameColumnsTwice, NameClash}
use Rattle.schema_dm.specs.declared.refusal.SchemaError.{SchemaError}
use Rattle.members_dm.specs.Elements.{Repeats}
use Rattle.schema_dm.specs.Naming.{Name, same_name, IsBadName, column_names, Declares, column_place, kind_at}

-- ---- a draft's keys

-- a column list of a unique constraint definition of the draft, PRIMARY KEY or UNIQUE, is such (ISO/IEC 9075-2, 11.7)
abbrev pub AnyUniqueList : (List Name → Type 0) → TableDraft → Type 0
AnyUniqueList P draft = Any P draft.primaries ⊎ Any P draft.uniques

-- a list of the draft's own columns in one of its keys is such: one of those, or the referencing columns of a
-- foreign key (11.8)
abbrev pub AnyOwnList : (List Name → Type 0) → TableDraft → Type 0
AnyOwnList P draft = AnyUniqueList P draft ⊎ Any (λ key. P key.columns) draft.foreign

-- a table of the name is declared
abbrev pub DeclaresTable : List TableDraft → Name → Type 0
DeclaresTable drafts name = Any (λ draft. draft.name ≡ name) drafts

-- the place of the first table of the name, or the number of tables where there is none
abbrev pub table_place : List TableDraft → Name → ℕ
table_place drafts name = position_or_len (λ draft. same_name draft.name name) drafts

-- the referenced table: the first of its name
abbrev pub target_of : List TableDraft → ForeignDraft → Option TableDraft
target_of drafts key = slice_get drafts (table_place drafts key.target)

-- the referenced columns: those that are given, or else the columns of the first primary key of the
-- referenced table (ISO/IEC 9075-2, 11.8, where the reference column list is left out)
abbrev pub given_or_primary : Option (List Name) → List (List Name) → Option (List Name)
given_or_primary (Some names) primaries = Some names
given_or_primary None primaries = slice_get primaries 0

abbrev pub referenced_columns : ForeignDraft → TableDraft → Option (List Name)
referenced_columns key target = given_or_primary key.target_columns target.primaries

-- ---- what one foreign key may lack

-- ISO/IEC 9075-2, 11.8: there are as many referenced columns as referencing ones, and they are in some order the
-- columns of a unique constraint of the referenced table
abbrev pub AreNoKey : List Name → TableDraft → Option (List Name) → Type 0
AreNoKey columns target None = Unit {0}
AreNoKey columns target (Some names) = (length names ≢ length columns) ⊎ (¬ AnyUniqueList (IsPermutation names) target)

abbrev pub ReferencesNoKey : ForeignDraft → Option TableDraft → Type 0
ReferencesNoKey key None = ⊥
ReferencesNoKey key (Some target) = AreNoKey key.columns target (referenced_columns key target)

abbrev pub KindsDiffer : Option Kind → Option Kind → Type 0
KindsDiffer (Some kind) (Some other) = kind ≢ other
KindsDiffer _ _ = ⊥

-- the kind of the first column of the name
abbrev pub kind_of_name : List Column → Name → Option Kind
kind_of_name columns name = kind_at columns (column_place columns name)

-- a column and its referenced column have different kinds (11.8: their declared types are comparable)
abbrev pub AnyKindsDiffer : List Column → List Name → List Column → List Name → Type 0
AnyKindsDiffer columns (name ∷ names) others (target ∷ targets) =
    KindsDiffer (kind_of_name columns name) (kind_of_name others target) ⊎ AnyKindsDiffer columns names others targets
AnyKindsDiffer columns _ others _ = ⊥

abbrev pub KindsOfKeyDiffer : List Column → List Name → List Column → Option (List Name) → Type 0
KindsOfKeyDiffer columns names others None = ⊥
KindsOfKeyDiffer columns names others (Some targets) = AnyKindsDiffer columns names others targets

abbrev pub ReferencesOtherKinds : List Column → ForeignDraft → Option TableDraft → Type 0
ReferencesOtherKinds columns key None = ⊥
ReferencesOtherKinds columns key (Some target) = KindsOfKeyDiffer columns key.columns target.columns (referenced_columns key target)

-- The reference property of the column `x` alone has the name `ref-x`, which the literal property of a column `ref-x`
-- has too (W3C, A Direct Mapping of Relational Data to RDF: reference property IRI, literal property IRI).
abbrev pub ClashesWith : List Column → List Name → Type 0
ClashesWith columns (x ∷ []) = Declares columns (codes "ref-" ++ x)
ClashesWith columns _ = ⊥

-- ---- the causes

-- the cause holds of the draft that stands at the place among the drafts, counted from 0
abbrev pub Holds : SchemaCause → List TableDraft → ℕ → TableDraft → Type 0
Holds NoTable drafts place draft = ⊥
Holds TooManyTables drafts place draft = ⊥
Holds BadName drafts place draft = IsBadName draft.name ⊎ Any (λ column. IsBadName column.name) draft.columns
Holds NoColumn drafts place draft = (length draft.columns ≡ 0) ⊎ AnyOwnList (λ names. length names ≡ 0) draft
Holds TooManyColumns drafts place draft = 256 < length draft.columns
Holds DuplicateTable drafts place draft = DeclaresTable (take place drafts) draft.name
Holds DuplicateColumn drafts place draft = Repeats (column_names draft.columns) ⊎ AnyOwnList Repeats draft
Holds UnknownColumn drafts place draft = AnyOwnList (Any (λ name. ¬ Declares draft.columns name)) draft
Holds UnknownTable drafts place draft = Any (λ key. ¬ DeclaresTable drafts key.target) draft.foreign
Holds TwoPrimaryKeys drafts place draft = 1 < length draft.primaries
Holds NotAKey drafts place draft = Any (λ key. ReferencesNoKey key (target_of drafts key)) draft.foreign
Holds KindMismatch drafts place draft = Any (λ key. ReferencesOtherKinds draft.columns key (target_of drafts key)) draft.foreign
Holds SameColumnsTwice drafts place draft = Repeats (map (λ key. key.columns) draft.foreign)
Holds NameClash drafts place draft = Any (λ key. ClashesWith draft.columns key.columns) draft.foreign

-- the order in which causes are told
abbrev pub rank : SchemaCause → ℕ
rank NoTable = 0
rank TooManyTables = 1
rank BadName = 2
rank NoColumn = 3
rank TooManyColumns = 4
rank DuplicateTable = 5
rank DuplicateColumn = 6
rank UnknownColumn = 7
rank UnknownTable = 8
rank TwoPrimaryKeys = 9
rank NotAKey = 10
rank KindMismatch = 11
rank SameColumnsTwice = 12
rank NameClash = 13

-- no cause holds of the draft at the place
abbrev pub IsSound : List TableDraft → ℕ → TableDraft → Type 0
IsSound drafts place draft = (cause : SchemaCause) → ¬ Holds cause drafts place draft

-- no cause that is told before this one holds of the draft
abbrev pub NoneEarlier : SchemaCause → List TableDraft → ℕ → TableDraft → Type 0
NoneEarlier cause drafts place draft = (other : SchemaCause) → rank other < rank cause → ¬ Holds other drafts place draft

-- the cause holds of this draft, none holds of the drafts before it, and none that is
-- told earlier holds of it
pub record IsFirst (cause : SchemaCause) (drafts : List TableDraft) (place : ℕ) (draft : TableDraft) : Type 0 where
  pub stands : slice_get drafts place ≡ Some draft
  pub holds : Holds cause drafts place draft
  pub sound_before : (j : ℕ) (other : TableDraft) → j < place → slice_get drafts j ≡ Some other → IsSound drafts j other
  pub none_earlier : NoneEarlier cause drafts place draft

-- why the drafts stand for no schema: the first draft with a cause and its first cause, where the number of
-- drafts is in range. Tables are counted from 1 here.
pub data IsRefusedFor (drafts : List TableDraft) (error : SchemaError) : Type 0 where
  without_tables : drafts ≡ [] → error.cause ≡ NoTable → error.table ≡ 0 → IsRefusedFor drafts error
  with_too_many_tables : 4096 < length drafts → error.cause ≡ TooManyTables → error.table ≡ 0 → IsRefusedFor drafts error
  at_table : (place : ℕ) (draft : TableDraft) → 0 < length drafts → length drafts ≤ 4096 → error.table ≡ place + 1 → IsFirst error.cause drafts place draft → IsRefusedFor drafts error

-- 1 to 4,096 drafts, and no cause holds of one
pub record AreLawful (drafts : List TableDraft) : Type 0 where
  pub some : 0 < length drafts
  pub few : length drafts ≤ 4096
  pub sound : (place : ℕ) (draft : TableDraft) → slice_get drafts place ≡ Some draft → IsSound drafts place draft
