-- How a draft grows.
use Rattle.std.specs.Prelude.{List, [], ◌∷◌, ◌++◌, if◌then◌else◌}
use Rattle.std.specs.List.{flat_map}
use Rattle.schema_dm.specs.Naming.{same_name}
use Rattle.schema_dm.specs.declared.draft.Column.{Column as ColumnDraft}
use Rattle.schema_dm.specs.declared.draft.TableDraft.{TableDraft}
use Rattle.ddl_syntax_dm.specs.declared.syntax.Key.{Key}
use Rattle.ddl_syntax_dm.specs.declared.syntax.CreateTable.{CreateTable}
use Rattle.ddl_syntax_dm.specs.declared.syntax.Statement.{Statement}
use Rattle.ddl_syntax_dm.specs.declared.syntax.Statement.TheVariants.{Create, Alter}
use Rattle.ddl_syntax_dm.specs.Words.{Name}
use Rattle.ddl_dm.specs.Meaning.{primary_columns, unique_columns, foreign_drafts, draft_with, item_columns, item_keys}

-- the draft with these columns and keys behind its own
unfoldable pub extended : TableDraft → List ColumnDraft → List Key → TableDraft
extended draft columns keys = record {
  name = draft.name;
  columns = draft.columns ++ columns;
  primaries = draft.primaries ++ flat_map primary_columns keys;
  uniques = draft.uniques ++ flat_map unique_columns keys;
  foreign = draft.foreign ++ flat_map foreign_drafts keys;
}

-- the name of the table that the statement creates
abbrev pub created_name : Statement → List Name
created_name (Create table) = table.name ∷ []
created_name (Alter table) = []

abbrev pub created_names : List Statement → List Name
created_names statements = flat_map created_name statements

-- the draft of a CREATE by itself
abbrev pub own_draft : CreateTable → TableDraft
own_draft table = draft_with table.name (flat_map item_columns table.items) (flat_map item_keys table.items)

abbrev pub own_drafts : Statement → List TableDraft
own_drafts (Create table) = own_draft table ∷ []
own_drafts (Alter table) = []

-- the key behind those of the first draft of the name
abbrev pub with_key : Name → Key → List TableDraft → List TableDraft
with_key name key [] = []
with_key name key (draft ∷ drafts) = if same_name draft.name name then extended draft [] (key ∷ []) ∷ drafts else draft ∷ with_key name key drafts

abbrev pub altered : List TableDraft → Statement → List TableDraft
altered drafts (Create table) = drafts
altered drafts (Alter table) = with_key table.name table.key drafts
