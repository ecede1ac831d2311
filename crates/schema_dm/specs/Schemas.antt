-- The schema of drafts, and what holds of every schema. Tables and columns are counted from 0 here.
use Rattle.std.specs.Prelude.{◌≡◌, ◌⊎◌, ℕ, ◌<◌, ◌≤◌, List, [], ◌∷◌, ◌++◌, Option, map, length, slice_get, slice_index_or, codes}
use Rattle.std.specs.declared.option.Option.TheVariants.{None, Some}
use Rattle.std.specs.Option.{option_map}
use Rattle.std.specs.List.Sorted.{IsPermutation}
use Rattle.members_dm.specs.Membership.{IsIn, NoRepeats}
use Rattle.schema_dm.specs.declared.draft.Column.{Column}
use Rattle.schema_dm.specs.declared.draft.ForeignDraft.{ForeignDraft}
use Rattle.schema_dm.specs.declared.draft.TableDraft.{TableDraft}
use Rattle.schema_dm.specs.declared.refusal.SchemaFault.{SchemaFault}
use Rattle.schema_dm.specs.declared.refusal.SchemaFault.TheVariants.{Bad, Memory}
use Rattle.schema_dm.specs.declared.table.Table.{Table}
use Rattle.schema_dm.specs.declared.table.ForeignKey.{ForeignKey}
use Rattle.schema_dm.specs.Naming.{Name, IsBadName, Declares, column_place, kind_at}
use Rattle.schema_dm.specs.Drafts.{table_place, target_of, referenced_columns, IsRefusedFor}

-- ---- the schema of drafts

-- the places of the columns of these names
abbrev pub places_of : List Column → List Name → List ℕ
places_of columns names = map (column_place columns) names

abbrev pub places_if_given : List Column → Option (List Name) → List ℕ
places_if_given columns None = []
places_if_given columns (Some names) = places_of columns names

abbrev pub target_places : ForeignDraft → Option TableDraft → List ℕ
target_places key None = []
target_places key (Some target) = places_if_given target.columns (referenced_columns key target)

-- a foreign key by places; its referenced columns, where they aren't given, are the first primary key of the
-- referenced table
abbrev pub foreign_key_of : List TableDraft → List Column → ForeignDraft → ForeignKey
foreign_key_of drafts columns key = record {
  columns = places_of columns key.columns;
  target = table_place drafts key.target;
  target_columns = target_places key (target_of drafts key);
}

abbrev pub table_of : List TableDraft → TableDraft → Table
table_of drafts draft = record {
  name = draft.name;
  columns = draft.columns;
  primary = option_map (places_of draft.columns) (slice_get draft.primaries 0);
  uniques = map (places_of draft.columns) draft.uniques;
  foreign = map (foreign_key_of drafts draft.columns) draft.foreign;
}

abbrev pub schema_of : List TableDraft → List Table
schema_of drafts = map (table_of drafts) drafts

-- why `Schema::new` is refused: the drafts stand for no schema. Want of memory may come with any drafts.
abbrev pub IsRefusedWith : List TableDraft → SchemaFault → Type 0
IsRefusedWith drafts (Bad error) = IsRefusedFor drafts error
IsRefusedWith drafts Memory = Unit {0}

-- ---- what holds of every schema

abbrev pub no_table : Table
no_table = record { name = []; columns = []; primary = None; uniques = []; foreign = [] }

-- the table at the place
abbrev pub table_at : List Table → ℕ → Table
table_at tables place = slice_index_or tables place no_table

-- a list of columns of a key: one or more, each in the table, none twice (ISO/IEC 9075-2, 11.7)
pub record AreColumns (table : Table) (places : List ℕ) : Type 0 where
  pub some : 0 < length places
  pub within : (place : ℕ) → IsIn place places → place < length table.columns
  pub once : NoRepeats places

-- the columns of the primary key or of a UNIQUE constraint, in its order
abbrev pub IsUniqueKey : Table → List ℕ → Type 0
IsUniqueKey table places = (table.primary ≡ Some places) ⊎ IsIn places table.uniques

-- a referential constraint (ISO/IEC 9075-2, 11.8): the referenced columns are, in some order, a unique key of the
-- referenced table, as many as the referencing columns and of their kinds
pub record IsForeignKey (tables : List Table) (table : Table) (key : ForeignKey) : Type 0 where
  pub columns : AreColumns table key.columns
  pub target : key.target < length tables
  pub unique : (places : List ℕ) × IsUniqueKey (table_at tables key.target) places × IsPermutation key.target_columns places
  pub as_many : length key.target_columns ≡ length key.columns
  pub kinds : map (kind_at table.columns) key.columns ≡ map (kind_at (table_at tables key.target).columns) key.target_columns

pub record IsTable (tables : List Table) (table : Table) : Type 0 where
  pub name : ¬ IsBadName table.name
  pub some_column : 0 < length table.columns
  pub few_columns : length table.columns ≤ 256
  pub column_names : (column : Column) → IsIn column table.columns → ¬ IsBadName column.name
  pub distinct : NoRepeats (map (λ column. column.name) table.columns)
  pub primary : (places : List ℕ) → table.primary ≡ Some places → AreColumns table places
  pub uniques : (places : List ℕ) → IsIn places table.uniques → AreColumns table places
  pub foreign : (key : ForeignKey) → IsIn key table.foreign → IsForeignKey tables table key
  pub apart : NoRepeats (map (λ key. key.columns) table.foreign)
  -- no column has the name of the reference property of a foreign key on one column
  pub no_clash : (key : ForeignKey) (place : ℕ) (column : Column) → IsIn key table.foreign → key.columns ≡ place ∷ []
      → slice_get table.columns place ≡ Some column → ¬ Declares table.columns (codes "ref-" ++ column.name)

-- a base of tables with distinct names (ISO/IEC 9075-2, 11.3), 1 to 4,096 of them
pub record IsSchema (tables : List Table) : Type 0 where
  pub some : 0 < length tables
  pub few : length tables ≤ 4096
  pub names : NoRepeats (map (λ table. table.name) tables)
  pub each : (table : Table) → IsIn table tables → IsTable tables table
