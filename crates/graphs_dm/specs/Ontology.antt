-- What a graph says of the tables themselves. Tables, columns and keys are counted from 0.
use Rattle.std.specs.Prelude.{◌≡◌, ℕ, List, [], ◌∷◌, slice_get, Some}
use Rattle.members_dm.specs.Places.{Place}
use Rattle.schema_dm.specs.Schemas.{table_at}
use Rattle.schema_dm.specs.declared.draft.Column.{Column}
use Rattle.schema_dm.specs.declared.table.Binary.{Binary}
use Rattle.schema_dm.specs.declared.table.ForeignKey.{ForeignKey}
use Rattle.schema_dm.specs.declared.table.Table.{Table}
use Rattle.names_dm.specs.Names.{column_iri}
use Rattle.names_dm.specs.declared.names.ColumnName.{ColumnName}
use Rattle.facts_dm.specs.Facts.{Fact, a_class, a_domain, a_link_range, a_property, a_range, an_object, link_iri}
use Rattle.graphs_dm.specs.RowFacts.{reference_of}
use Rattle.graphs_dm.specs.Relations.{CountsAsClass, CountsAsRelation, left_key, relation_of, right_key}
use Rattle.graphs_dm.specs.declared.graph_name.GraphName.{GraphName}

abbrev pub column_of : Table → Column → ColumnName
column_of table column = record { table = table.name; column = column.name }

-- A property has three facts: that it is one, its domain and its range.

-- a fact of the column stands at a place: 0 to 2
pub data ColumnStandsAt (base : List ℕ) (table : Table) (column : Column) (place : Place) (fact : Fact) : Type 0 where
  column_property : place ≡ 0 ∷ [] → fact ≡ a_property (column_of table column) → ColumnStandsAt base table column place fact
  column_domain : place ≡ 1 ∷ [] → fact ≡ a_domain (column_iri base (column_of table column)) table.name → ColumnStandsAt base table column place fact
  column_range : place ≡ 2 ∷ [] → fact ≡ a_range (column_of table column) column.kind → ColumnStandsAt base table column place fact

-- a fact of the reference of a foreign key stands at a place: 0 to 2
pub data ReferenceStandsAt (base : List ℕ) (tables : List Table) (table : Table) (key : ForeignKey) (place : Place) (fact : Fact) : Type 0 where
  reference_property : place ≡ 0 ∷ [] → fact ≡ an_object (reference_of table key) → ReferenceStandsAt base tables table key place fact
  reference_domain : place ≡ 1 ∷ [] → fact ≡ a_domain (link_iri base (reference_of table key)) table.name → ReferenceStandsAt base tables table key place fact
  reference_range : place ≡ 2 ∷ [] → fact ≡ a_link_range (reference_of table key) (table_at tables key.target).name → ReferenceStandsAt base tables table key place fact

-- a fact of the relation stands at a place: 0 to 2; it leads from rows of the left key's target to rows of the right key's
pub data RelationStandsAt (base : List ℕ) (tables : List Table) (t : ℕ) (sides : Binary) (place : Place) (fact : Fact) : Type 0 where
  relation_property : place ≡ 0 ∷ [] → fact ≡ an_object (relation_of tables t sides) → RelationStandsAt base tables t sides place fact
  relation_domain : place ≡ 1 ∷ [] → fact ≡ a_domain (link_iri base (relation_of tables t sides)) (table_at tables (left_key tables t sides).target).name → RelationStandsAt base tables t sides place fact
  relation_range : place ≡ 2 ∷ [] → fact ≡ a_link_range (relation_of tables t sides) (table_at tables (right_key tables t sides).target).name → RelationStandsAt base tables t sides place fact

-- a fact of the table t stands at a place: of a class 0 for itself, 1 and the column, or 2 and the foreign key, each with its
-- own place behind; of a relation its own place
pub data OntologyStandsAt (name : GraphName) (base : List ℕ) (tables : List Table) (t : ℕ) (place : Place) (fact : Fact) : Type 0 where
  of_class : CountsAsClass name tables t → place ≡ 0 ∷ [] → fact ≡ a_class (table_at tables t).name → OntologyStandsAt name base tables t place fact
  of_column : CountsAsClass name tables t → (k : ℕ) (column : Column) (rest : Place) → slice_get (table_at tables t).columns k ≡ Some column → place ≡ 1 ∷ k ∷ rest
      → ColumnStandsAt base (table_at tables t) column rest fact → OntologyStandsAt name base tables t place fact
  of_reference : CountsAsClass name tables t → (k : ℕ) (key : ForeignKey) (rest : Place) → slice_get (table_at tables t).foreign k ≡ Some key → place ≡ 2 ∷ k ∷ rest
      → ReferenceStandsAt base tables (table_at tables t) key rest fact → OntologyStandsAt name base tables t place fact
  of_relation : (sides : Binary) → CountsAsRelation name tables t sides → RelationStandsAt base tables t sides place fact → OntologyStandsAt name base tables t place fact
