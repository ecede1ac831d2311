-- The tables of the benchmark's database, as SQL's table definitions declare them (ISO/IEC 9075-2, 11.3).
use Rattle.std.specs.Prelude.{false, List, [], ◌∷◌, codes}
use Rattle.std.specs.declared.option.Option.TheVariants.{Some}
use Rattle.value_dm.specs.declared.kind.Kind.{Kind}
use Rattle.value_dm.specs.declared.kind.Kind.TheVariants.{Integer, Text}
use Rattle.schema_dm.specs.Naming.{Name}
use Rattle.schema_dm.specs.declared.draft.Column.{Column}
use Rattle.schema_dm.specs.declared.draft.ForeignDraft.{ForeignDraft}
use Rattle.schema_dm.specs.declared.draft.TableDraft.{TableDraft}

abbrev pub id : Name
id = codes "id"

-- a column without NOT NULL
abbrev pub column : Kind → Name → Column
column kind name = record { name = name; kind = kind; not_null = false }

-- FOREIGN KEY (name) REFERENCES target (id)
abbrev pub onto_id : Name → Name → ForeignDraft
onto_id name target = record { columns = name ∷ []; target = target; target_columns = Some (id ∷ []) }

abbrev pub dept : TableDraft
dept = record {
  name = codes "Dept";
  columns = column Integer id ∷ column Text (codes "name") ∷ [];
  primaries = (id ∷ []) ∷ [];
  uniques = [];
  foreign = [];
}

abbrev pub person : TableDraft
person = record {
  name = codes "Person";
  columns = column Integer id ∷ column Text (codes "name") ∷ column Integer (codes "dept") ∷ column Integer (codes "boss") ∷ [];
  primaries = (id ∷ []) ∷ [];
  uniques = [];
  foreign = onto_id (codes "dept") (codes "Dept") ∷ onto_id (codes "boss") (codes "Person") ∷ [];
}

abbrev pub member : TableDraft
member = record {
  name = codes "Member";
  columns = column Integer (codes "person") ∷ column Integer (codes "dept") ∷ [];
  primaries = (codes "person" ∷ codes "dept" ∷ []) ∷ [];
  uniques = [];
  foreign = onto_id (codes "person") (codes "Person") ∷ onto_id (codes "dept") (codes "Dept") ∷ [];
}

abbrev pub note : TableDraft
note = record {
  name = codes "Note";
  columns = column Text (codes "text") ∷ column Integer (codes "size") ∷ [];
  primaries = [];
  uniques = [];
  foreign = [];
}

abbrev pub drafts : List TableDraft
drafts = dept ∷ person ∷ member ∷ note ∷ []
