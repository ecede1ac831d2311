-- What the facts of the map-keys graph say of the database.
use Rattle.std.proofs.Common.{◌≡◌, ◌∙◌, ◌<◌, ℕ, List, [], Some, None, refl, sym, ap, subst, get_or, length}
use Rattle.std.specs.Prelude.{slice_get}
use Rattle.std.proofs.lemmas.Option.{slice_get-get_or, slice_get_within}
use Rattle.value_dm.specs.Kinds.{kind_of}
use Rattle.value_dm.specs.declared.kind.Kind.{Kind}
use Rattle.value_dm.specs.declared.value.Value.{Value}
use Rattle.members_dm.specs.Membership.{IsIn}
use Rattle.members_dm.specs.Places.{Place}
use Rattle.members_dm.proofs.ElementsLemmas.{item_at_index, item_within, one_by_key}
use Rattle.schema_dm.specs.Schemas.{no_table, table_at}
use Rattle.schema_dm.specs.declared.draft.Column.{Column}
use Rattle.schema_dm.specs.declared.table.ForeignKey.{ForeignKey}
use Rattle.schema_dm.specs.declared.table.Table.{Table}
use Rattle.names_dm.specs.declared.names.ColumnName.{ColumnName}
use Rattle.facts_dm.specs.Facts.{Fact, Link, a_cell, a_class, a_domain, a_link, a_link_range, a_mark, a_node, a_property, a_range, an_object}
use Rattle.table_csv.specs.Cells.{Cell, IsCellOf}
use Rattle.table_csv.specs.Databases.{Data, IsDatabase, rows_at}
use Rattle.table_csv.proofs.Databases.{cell_fits, row_fits, rows_fit}
use Rattle.keys_dm.specs.KeyCells.{row_at}
use Rattle.keys_dm.specs.Violations.{Violates}
use Rattle.keys_dm.specs.declared.violation.ViolationKind.{ViolationKind}
use Rattle.graphs_dm.specs.Graphs.{StandsAt, of_ontology, of_row, row_mark, row_of_class, row_of_relation}
use Rattle.graphs_dm.specs.Ontology.{column_domain, column_of, column_property, column_range, of_class, of_column, of_reference, of_relation, reference_domain, reference_property, reference_range}
use Rattle.graphs_dm.specs.OwnNodes.{HasRow}
use Rattle.graphs_dm.specs.RowFacts.{reference_of, row_literal, row_reference, row_type}
use Rattle.graphs_dm.specs.declared.graph_name.GraphName.TheVariants.{MapKeys}
use Rattle.graphs_dm.proofs.NodeLaws.{is_table}

-- the column of this name has the kind
pub record IsColumnOf (D : Data) (name : ColumnName) (kind : Kind) : Type 0 where
  pub t : ℕ
  pub k : ℕ
  pub column : Column
  pub below : t < length D.tables
  pub stands : slice_get (table_at D.tables t).columns k ≡ Some column
  pub named : name ≡ column_of (table_at D.tables t) column
  pub its_kind : kind ≡ column.kind

-- the link is the reference of a foreign key
pub record IsReferenceOf (D : Data) (link : Link) : Type 0 where
  pub t : ℕ
  pub k : ℕ
  pub key : ForeignKey
  pub below : t < length D.tables
  pub stands : slice_get (table_at D.tables t).foreign k ≡ Some key
  pub named : link ≡ reference_of (table_at D.tables t) key

abbrev pub IsViolated : Data → Type 0
IsViolated D = (t i : ℕ) × (kind : ViolationKind) × HasRow D t i × Violates D t i kind

abbrev pub Says : Data → Fact → Type 0
Says D (a_class table) = Unit {0}
Says D (a_property column) = Unit {0}
Says D (an_object link) = Unit {0}
Says D (a_domain iri table) = Unit {0}
Says D (a_range column kind) = IsColumnOf D column kind
Says D (a_link_range link table) = IsReferenceOf D link
Says D (a_node node table) = Unit {0}
Says D (a_cell node column value) = IsColumnOf D column value.kind
Says D (a_link node link other) = IsReferenceOf D link
Says D (a_mark node) = IsViolated D

module _ (D : Data) (database : IsDatabase D) where
  table_stands : (t : ℕ) → t < length D.tables → slice_get D.tables t ≡ Some (table_at D.tables t)
  table_stands t below = slice_get-get_or D.tables t no_table below

  value_kind : (t i k : ℕ) → HasRow D t i → (column : Column) (value : Value) → slice_get (table_at D.tables t).columns k ≡ Some column → slice_get (row_at (rows_at D.rows t) i) k ≡ Some (Some value) → kind_of value ≡ column.kind
  value_kind t i k has column value stands there =
      let row = row_at (rows_at D.rows t) i in
      let fits = cell_fits (table_at D.tables t).columns row (row_fits (table_at D.tables t).columns (rows_at D.rows t) (rows_fit D database t (table_at D.tables t) (table_stands t has.table)) row (item_within (rows_at D.rows t) i [] has.row)) k column stands None in
      let read : Some (get_or row k None) ≡ Some (Some value) = sym (slice_get-get_or row k None (slice_get_within row k (Some value) there)) ∙ there in
      let same : ◌≡◌ {A = Cell} (get_or row k None) (Some value) = cc in
      (subst (IsCellOf column) same fits).0

  pub says : (base : List ℕ) (place : Place) (fact : Fact) → StandsAt MapKeys base D place fact → Says D fact
  says base place fact (of_ontology has t rest below at (of_class class stands same)) = subst (Says D) (sym same) tt
  says base place fact (of_ontology has t rest below at (of_column class k column more found stands (column_property p same))) = subst (Says D) (sym same) tt
  says base place fact (of_ontology has t rest below at (of_column class k column more found stands (column_domain p same))) = subst (Says D) (sym same) tt
  says base place fact (of_ontology has t rest below at (of_column class k column more found stands (column_range p same))) =
      subst (Says D) (sym same) (record { t = t; k = k; column = column; below = below; stands = found; named = refl; its_kind = refl })
  says base place fact (of_ontology has t rest below at (of_reference class k key more found stands (reference_property p same))) = subst (Says D) (sym same) tt
  says base place fact (of_ontology has t rest below at (of_reference class k key more found stands (reference_domain p same))) = subst (Says D) (sym same) tt
  says base place fact (of_ontology has t rest below at (of_reference class k key more found stands (reference_range p same))) =
      subst (Says D) (sym same) (record { t = t; k = k; key = key; below = below; stands = found; named = refl })
  says base place fact (of_ontology has t rest below at (of_relation sides counts stands)) = absurd counts
  says base place fact (of_row t i rest has at (row_mark marks kind violates stands same)) = subst (Says D) (sym same) (t, i, kind, has, violates)
  says base place fact (of_row t i rest has at (row_of_class class (row_type stands same))) = subst (Says D) (sym same) tt
  says base place fact (of_row t i rest has at (row_of_class class (row_literal k column value found there stands same))) =
      subst (Says D) (sym same) (record { t = t; k = k; column = column; below = has.table; stands = found; named = refl; its_kind = value_kind t i k has column value found there })
  says base place fact (of_row t i rest has at (row_of_class class (row_reference k j key found references stands same))) =
      subst (Says D) (sym same) (record { t = t; k = k; key = key; below = has.table; stands = found; named = refl })
  says base place fact (of_row t i rest has at (row_of_relation sides j l counts left right stands same)) = absurd counts

  -- ---- tables and columns by their names

  pub one_table : (t u : ℕ) → t < length D.tables → u < length D.tables → (table_at D.tables t).name ≡ (table_at D.tables u).name → table_at D.tables t ≡ table_at D.tables u
  one_table t u below also same =
      one_by_key (λ (table : Table). table.name) D.tables database.schema.names (table_at D.tables t) (table_at D.tables u) (item_within D.tables t no_table below) (item_within D.tables u no_table also) same

  -- a column has one kind
  pub one_kind : (name : ColumnName) (kind other : Kind) → IsColumnOf D name kind → IsColumnOf D name other → kind ≡ other
  one_kind name kind other h k =
      let names : column_of (table_at D.tables h.t) h.column ≡ column_of (table_at D.tables k.t) k.column = sym h.named ∙ k.named in
      let same = one_table h.t k.t h.below k.below (ap (λ (c : ColumnName). c.table) names) in
      let among : IsIn h.column (table_at D.tables h.t).columns = item_at_index h.column (table_at D.tables h.t).columns h.k h.stands in
      let also : IsIn k.column (table_at D.tables h.t).columns = subst (λ (table : Table). IsIn k.column table.columns) (sym same) (item_at_index k.column (table_at D.tables k.t).columns k.k k.stands) in
      let one = one_by_key (λ (column : Column). column.name) (table_at D.tables h.t).columns (is_table D database h.t h.below).distinct h.column k.column among also (ap (λ (c : ColumnName). c.column) names) in
      h.its_kind ∙ ap (λ (column : Column). column.kind) one ∙ sym k.its_kind
