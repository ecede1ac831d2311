-- What a list of statements declares: the drafts of its tables (ISO/IEC 9075-2, 11.3 <table definition>, 11.4 <column
-- definition> and 11.10 <alter table statement>). Statements are counted from 0 here.
use Rattle.std.specs.Prelude.{ℕ, List, [], ◌∷◌, ◌++◌, Option, Bool, true, false, if◌then◌else◌, take}
use Rattle.std.specs.List.{flat_map, list_any, enumerate_from, position}
use Rattle.value_dm.specs.declared.kind.Kind.{Kind}
use Rattle.value_dm.specs.declared.kind.Kind.TheVariants as kinds
use Rattle.schema_dm.specs.Naming.{same_name}
use Rattle.schema_dm.specs.declared.draft.Column.{Column as ColumnDraft}
use Rattle.schema_dm.specs.declared.draft.ForeignDraft.{ForeignDraft}
use Rattle.schema_dm.specs.declared.draft.TableDraft.{TableDraft}
use Rattle.ddl_syntax_dm.specs.declared.syntax.ColumnType.{ColumnType}
use Rattle.ddl_syntax_dm.specs.declared.syntax.ColumnType.TheVariants as types
use Rattle.ddl_syntax_dm.specs.declared.syntax.Target.{Target}
use Rattle.ddl_syntax_dm.specs.declared.syntax.Key.{Key}
use Rattle.ddl_syntax_dm.specs.declared.syntax.Key.TheVariants as keys
use Rattle.ddl_syntax_dm.specs.declared.syntax.Constraint.{Constraint}
use Rattle.ddl_syntax_dm.specs.declared.syntax.Constraint.TheVariants as constraints
use Rattle.ddl_syntax_dm.specs.declared.syntax.Column.{Column}
use Rattle.ddl_syntax_dm.specs.declared.syntax.Item.{Item}
use Rattle.ddl_syntax_dm.specs.declared.syntax.Item.TheVariants as items
use Rattle.ddl_syntax_dm.specs.declared.syntax.CreateTable.{CreateTable}
use Rattle.ddl_syntax_dm.specs.declared.syntax.Statement.{Statement}
use Rattle.ddl_syntax_dm.specs.declared.syntax.Statement.TheVariants.{Create, Alter}
use Rattle.ddl_syntax_dm.specs.Words.{Name}

-- ---- columns

abbrev pub kind_of : ColumnType → Kind
kind_of types.Text = kinds.Text
kind_of types.Integer = kinds.Integer
kind_of types.Decimal = kinds.Decimal
kind_of types.Boolean = kinds.Boolean
kind_of types.Date = kinds.Date
kind_of types.Time = kinds.Time
kind_of types.DateTime = kinds.DateTime
kind_of types.Binary = kinds.Binary

abbrev pub is_not_null : Constraint → Bool
is_not_null constraints.NotNull = true
is_not_null _ = false

-- NOT NULL alone makes a column not null: neither a primary key does, nor does NULL take it back
abbrev pub column_of : Column → ColumnDraft
column_of column = record { name = column.name; kind = kind_of column.kind; not_null = list_any is_not_null column.constraints }

abbrev pub item_columns : Item → List ColumnDraft
item_columns (items.Key key) = []
item_columns (items.Column column) = column_of column ∷ []

-- ---- keys

-- PRIMARY KEY, UNIQUE and REFERENCES at a column are keys on this column alone
abbrev pub constraint_keys : Name → Constraint → List Key
constraint_keys name constraints.PrimaryKey = keys.Primary (name ∷ []) ∷ []
constraint_keys name constraints.Unique = keys.Unique (name ∷ []) ∷ []
constraint_keys name (constraints.References target) = keys.Foreign (record { columns = name ∷ []; target = target }) ∷ []
constraint_keys name constraints.NotNull = []
constraint_keys name constraints.Null = []

-- the keys of an item in the order of the text
abbrev pub item_keys : Item → List Key
item_keys (items.Key key) = key ∷ []
item_keys (items.Column column) = flat_map (constraint_keys column.name) column.constraints

abbrev pub primary_columns : Key → List (List Name)
primary_columns (keys.Primary names) = names ∷ []
primary_columns _ = []

abbrev pub unique_columns : Key → List (List Name)
unique_columns (keys.Unique names) = names ∷ []
unique_columns _ = []

abbrev pub foreign_draft : List Name → Target → ForeignDraft
foreign_draft columns target = record { columns = columns; target = target.table; target_columns = target.columns }

abbrev pub foreign_drafts : Key → List ForeignDraft
foreign_drafts (keys.Foreign key) = foreign_draft key.columns key.target ∷ []
foreign_drafts _ = []

-- a draft of these columns and keys; the keys of each sort stand in the order of all
abbrev pub draft_with : Name → List ColumnDraft → List Key → TableDraft
draft_with name columns keys = record {
  name = name;
  columns = columns;
  primaries = flat_map primary_columns keys;
  uniques = flat_map unique_columns keys;
  foreign = flat_map foreign_drafts keys;
}

-- ---- statements

abbrev pub creates : Name → Statement → Bool
creates name (Create table) = same_name table.name name
creates name (Alter table) = false

abbrev pub is_created : List Statement → Name → Bool
is_created statements name = list_any (creates name) statements

-- the key that ALTER TABLE adds to a table of the name
abbrev pub altered_keys : Name → Statement → List Key
altered_keys name (Create table) = []
altered_keys name (Alter table) = if same_name table.name name then table.key ∷ [] else []

-- The keys that ALTERs add to the table of a CREATE, before which these statements stand: each ALTER of a name
-- belongs to the first CREATE of the name.
abbrev pub added_keys : List Statement → List Statement → Name → List Key
added_keys statements earlier name = if is_created earlier name then [] else flat_map (altered_keys name) statements

-- the keys of a CREATE, and behind them those of the ALTERs that belong to it
abbrev pub draft_of : List Statement → List Statement → CreateTable → TableDraft
draft_of statements earlier table =
    draft_with table.name (flat_map item_columns table.items) (flat_map item_keys table.items ++ added_keys statements earlier table.name)

abbrev pub drafts_at : List Statement → List Statement → Statement → List TableDraft
drafts_at statements earlier (Create table) = draft_of statements earlier table ∷ []
drafts_at statements earlier (Alter table) = []

abbrev pub numbered_drafts : List Statement → ℕ × Statement → List TableDraft
numbered_drafts statements numbered = drafts_at statements (take numbered.0 statements) numbered.1

-- one draft for each CREATE, in their order
unfoldable pub drafts_of : List Statement → List TableDraft
drafts_of statements = flat_map (numbered_drafts statements) (enumerate_from 0 statements)

-- an ALTER of a table that no statement creates
abbrev pub alters_unknown : List Statement → Statement → Bool
alters_unknown statements (Create table) = false
alters_unknown statements (Alter table) = if is_created statements table.name then false else true

-- the place of the first such ALTER
abbrev pub unknown_alter : List Statement → Option ℕ
unknown_alter statements = position (alters_unknown statements) statements
