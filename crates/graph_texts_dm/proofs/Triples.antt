-- The triples of a database's graphs are of their types.
use Rattle.std.proofs.Common.{◌≡◌, ℕ, zero, suc, ◌<◌, ◌+◌, ◌^◌, List, [], ◌∷◌, Option, Some, None, Bool, true, false, length, get_or, refl, sym, subst, inl, inr, arith}
use Rattle.std.specs.Prelude.{slice_get, slice_index_or, if◌then◌else◌}
use Rattle.std.specs.List.{AllZip}
use Rattle.std.proofs.lemmas.Option.{get_or_from_slice_get}
use Rattle.value_dm.specs.declared.kind.Kind.{Kind}
use Rattle.value_dm.specs.declared.kind.Kind.TheVariants as kind
use Rattle.value_dm.specs.Kinds.{kind_of}
use Rattle.value_dm.specs.Lawful.{IsLawful as IsLawfulValue}
use Rattle.value_dm.specs.Texts.{IsText}
use Rattle.members_dm.specs.Membership.{IsIn}
use Rattle.members_dm.specs.Places.{Place}
use Rattle.members_dm.proofs.AnyLemmas.{item_from_all}
use Rattle.members_dm.proofs.ElementsLemmas.{item_at_index, item_within}
use Rattle.members_dm.proofs.MembershipLemmas.{IsIn-append, IsIn-map, map-IsIn}
use Rattle.schema_dm.specs.Naming.{Name, column_names, name_at}
use Rattle.schema_dm.specs.Relations.{IsSideAt}
use Rattle.schema_dm.specs.Schemas.{no_table, table_at}
use Rattle.schema_dm.specs.declared.draft.Column.{Column}
use Rattle.schema_dm.specs.declared.table.Binary.{Binary}
use Rattle.schema_dm.specs.declared.table.ForeignKey.{ForeignKey}
use Rattle.schema_dm.specs.declared.table.Table.{Table}
use Rattle.schema_dm.proofs.GoodNames.{text_of_good}
use Rattle.names_dm.specs.Labels.{row_label}
use Rattle.names_dm.specs.Names.{table_iri}
use Rattle.names_dm.specs.Rows.{row_iri}
use Rattle.table_csv.proofs.Zips.{zipped_at}
use Rattle.names_dm.specs.Statements.{Statement}
use Rattle.names_dm.specs.declared.key.KeyPart.{KeyPart}
use Rattle.facts_dm.specs.Facts.{Fact, Node, a_link, blank, iri, link_iri, node_term, triple_of}
use Rattle.facts_dm.specs.Vocabulary.{literal_type}
use Rattle.facts_dm.specs.declared.word.Word.TheVariants.{RdfType, RdfsDomain, RdfsRange, OwlDifferentFrom, OwlClass, OwlDatatypeProperty, OwlObjectProperty, Datatype}
use Rattle.table_csv.specs.Cells.{AreRowsOf, Cell, IsRowOf, Row}
use Rattle.table_csv.specs.Databases.{Data, IsDatabase, rows_at}
use Rattle.keys_dm.specs.KeyCells.{row_at}
use Rattle.graphs_dm.specs.Graphs.{GraphRowStandsAt, IsTripleOf, StandsAt, of_ontology, of_row, row_mark, row_of_class, row_of_relation}
use Rattle.graphs_dm.specs.Nodes.{has_own_key, key_parts, part_of, primary_parts, row_node}
use Rattle.graphs_dm.specs.Ontology.{ColumnStandsAt, OntologyStandsAt, ReferenceStandsAt, RelationStandsAt, column_domain, column_property, column_range, of_class, of_column, of_reference, of_relation, reference_domain, reference_property, reference_range, relation_domain, relation_property, relation_range}
use Rattle.graphs_dm.specs.OwnNodes.{HasRow}
use Rattle.graphs_dm.specs.Relations.{CountsAsRelation, left_key, no_key, relation_of, right_key}
use Rattle.graphs_dm.specs.RowFacts.{References, RowStandsAt, reference_of, row_literal, row_reference, row_type}
use Rattle.graphs_dm.specs.declared.graph_name.GraphName.{GraphName}
use Rattle.graphs_dm.specs.declared.graph_name.GraphName.TheVariants.{Direct, Map, MapKeys}
use Rattle.ntriples_reader_dm.specs.Lawful.{IsIri, IsLawful, IsLawfulNode, IsLawfulTerm, IsLawfulType}
use Rattle.graph_texts_dm.proofs.Iris.{IsTextLink, column_lawful, form_text, label_lawful, link_lawful, row_lawful, table_lawful, word_lawful}

-- ---- names

abbrev HasTexts : Table → Type 0
HasTexts table = IsText table.name × ((n : Name) → IsIn n (column_names table.columns) → IsText n)

texts_at : (tables : List Table) → ((table : Table) → IsIn table tables → HasTexts table) → (t : ℕ) → HasTexts (get_or tables t no_table)
texts_at [] h t = (refl, (λ n i. absurd i))
texts_at (x ∷ xs) h zero = h x (inl refl)
texts_at (x ∷ xs) h (suc t) = texts_at xs (λ y i. h y (inr i)) t

name_in : (names : List Name) → ((n : Name) → IsIn n names → IsText n) → (p : ℕ) → IsText (get_or names p [])
name_in [] h p = refl
name_in (x ∷ xs) h zero = h x (inl refl)
name_in (x ∷ xs) h (suc p) = name_in xs (λ n i. h n (inr i)) p

-- ---- cells

abbrev IsLawfulCell : Cell → Type 0
IsLawfulCell None = Unit {0}
IsLawfulCell (Some v) = IsLawfulValue v

cell_lawful : (columns : List Column) (row : Row) → IsRowOf columns row → (p : ℕ) → IsLawfulCell (get_or row p None)
cell_lawful columns [] h p = tt
cell_lawful [] (c ∷ row) h p = absurd h
cell_lawful (x ∷ columns) (None ∷ row) h zero = tt
cell_lawful (x ∷ columns) (Some v ∷ row) h zero = h.0.1
cell_lawful (x ∷ columns) (c ∷ row) h (suc p) = cell_lawful columns row h.1 p

part_lawful : (name : Name) (cell : Cell) → IsText name → IsLawfulCell cell → (part : KeyPart) → IsIn part (part_of name cell) → IsText part.column × IsLawfulValue part.value
part_lawful name None p q part i = absurd i
part_lawful name (Some v) p q part (inl e) = subst (λ (x : KeyPart). IsText x.column × IsLawfulValue x.value) e (p, q)
part_lawful name (Some v) p q part (inr i) = absurd i

-- the kinds of literals are lawful types
type_lawful : (k : Kind) → IsLawfulType (literal_type k)
type_lawful kind.Text = tt
type_lawful kind.Integer = (word_lawful (Datatype kind.Integer), refl)
type_lawful kind.Decimal = (word_lawful (Datatype kind.Decimal), refl)
type_lawful kind.Boolean = (word_lawful (Datatype kind.Boolean), refl)
type_lawful kind.Date = (word_lawful (Datatype kind.Date), refl)
type_lawful kind.Time = (word_lawful (Datatype kind.Time), refl)
type_lawful kind.DateTime = (word_lawful (Datatype kind.DateTime), refl)
type_lawful kind.Binary = (word_lawful (Datatype kind.Binary), refl)

node_object : (n : Node) → IsLawfulNode (node_term n) → IsLawfulTerm (node_term n)
node_object (iri text) h = h
node_object (blank label) h = h

module _ (base : List ℕ) (is : IsIri base) (D : Data) (database : IsDatabase D) where
  table_texts : (t : ℕ) → HasTexts (table_at D.tables t)
  table_texts t =
      texts_at D.tables
      (λ table i. let lawful = database.schema.each table i in
      (text_of_good table.name lawful.name, (λ n j. let m = IsIn-map (λ (c : Column). c.name) n table.columns j in subst IsText m.2 (text_of_good m.0.name (lawful.column_names m.0 m.1))))) t

  table_text : (t : ℕ) → IsText (table_at D.tables t).name
  table_text t = (table_texts t).0

  name_text : (t p : ℕ) → IsText (name_at (table_at D.tables t).columns p)
  name_text t p = name_in (column_names (table_at D.tables t).columns) (table_texts t).1 p

  column_text : (t k : ℕ) (c : Column) → slice_get (table_at D.tables t).columns k ≡ Some c → IsText c.name
  column_text t k c at = (table_texts t).1 c.name (map-IsIn (λ (x : Column). x.name) c (table_at D.tables t).columns (item_at_index c (table_at D.tables t).columns k at))

  reference_text : (t : ℕ) (key : ForeignKey) → IsTextLink (reference_of (table_at D.tables t) key)
  reference_text t key = (table_text t, (λ c i. let m = IsIn-map (name_at (table_at D.tables t).columns) c key.columns i in subst IsText m.2 (name_text t m.0)))

  relation_text : (t : ℕ) (sides : Binary) → IsTextLink (relation_of D.tables t sides)
  relation_text t sides =
      let left = left_key D.tables t sides in
      let right = right_key D.tables t sides in
      (table_text t, name_text t 0, name_text left.target (slice_index_or left.target_columns 0 0), name_text t 1, name_text right.target (slice_index_or right.target_columns 0 0))

  -- ---- nodes

  rows_lawful : (tables : List Table) (lists : List (List Row)) → AllZip (λ table rows. AreRowsOf table.columns rows) tables lists → (t i p : ℕ) → IsLawfulCell (get_or (row_at (rows_at lists t) i) p None)
  rows_lawful tables [] h t i p = tt
  rows_lawful [] (rows ∷ lists) h t i p = absurd h
  rows_lawful (table ∷ tables) (rows ∷ lists) h zero i p = row_in rows (λ row j. item_from_all (IsRowOf table.columns) rows h.0.each row j) i
    where
      row_in : (rs : List Row) → ((row : Row) → IsIn row rs → IsRowOf table.columns row) → (i : ℕ) → IsLawfulCell (get_or (row_at rs i) p None)
      row_in [] g i = tt
      row_in (r ∷ rs) g zero = cell_lawful table.columns r (g r (inl refl)) p
      row_in (r ∷ rs) g (suc i) = row_in rs (λ row j. g row (inr j)) i
  rows_lawful (table ∷ tables) (rows ∷ lists) h (suc t) i p = rows_lawful tables lists h.1 t i p

  parts_lawful : (t i : ℕ) (places : List ℕ) (part : KeyPart) → IsIn part (key_parts (table_at D.tables t).columns (row_at (rows_at D.rows t) i) places) → IsText part.column × IsLawfulValue part.value
  parts_lawful t i [] part h = absurd h
  parts_lawful t i (p ∷ places) part h =
      elim (IsIn-append part (part_of (name_at (table_at D.tables t).columns p) (slice_index_or (row_at (rows_at D.rows t) i) p None)) (key_parts (table_at D.tables t).columns (row_at (rows_at D.rows t) i) places) h) [
        | inl j ↦ part_lawful (name_at (table_at D.tables t).columns p) (slice_index_or (row_at (rows_at D.rows t) i) p None) (name_text t p) (rows_lawful D.tables D.rows database.rows t i p) part j
        | inr j ↦ parts_lawful t i places part j
      ]

  primary_lawful : (t i : ℕ) (primary : Option (List ℕ)) (part : KeyPart) → IsIn part (primary_parts (table_at D.tables t).columns (row_at (rows_at D.rows t) i) primary) → IsText part.column × IsLawfulValue part.value
  primary_lawful t i None part h = absurd h
  primary_lawful t i (Some places) part h = parts_lawful t i places part h

  small : (t i : ℕ) → HasRow D t i → (t + 1 < 2 ^ 64) × (i + 1 < 2 ^ 64)
  small t i has =
      let rows = zipped_at (λ (table : Table) (rows : List Row). AreRowsOf table.columns rows) D.tables D.rows t no_table [] database.rows has.table in
      (omega (arith, has.table, database.schema.few), omega (arith, has.row, rows.few))

  node_lawful : (t i : ℕ) → HasRow D t i → IsLawfulNode (node_term (row_node base D t i))
  unfolding row_node
  node_lawful t i has = go (has_own_key (rows_at D.rows t) (table_at D.tables t).primary (row_at (rows_at D.rows t) i))
    where
      go : (own : Bool) → IsLawfulNode (node_term (if own then iri (row_iri base (table_at D.tables t).name (primary_parts (table_at D.tables t).columns (row_at (rows_at D.rows t) i) (table_at D.tables t).primary)) else blank (row_label (t + 1) (i + 1))))
      go true = row_lawful base is (table_at D.tables t).name (primary_parts (table_at D.tables t).columns (row_at (rows_at D.rows t) i) (table_at D.tables t).primary) (table_text t) (primary_lawful t i (table_at D.tables t).primary)
      go false = let s = small t i has in label_lawful (t + 1) (i + 1) s.0 s.1

  referenced : (t i j : ℕ) (key : ForeignKey) → t < length D.tables → IsIn key (table_at D.tables t).foreign → References D t i key j → HasRow D key.target j
  referenced t i j key below among r =
      let lawful = (database.schema.each (table_at D.tables t) (item_within D.tables t no_table below)).foreign key among in
      record { table = lawful.target; row = r.1.0 }

  side_among : (t number place : ℕ) → IsSideAt D.tables (table_at D.tables t).foreign place number → IsIn (slice_index_or (table_at D.tables t).foreign number no_key) (table_at D.tables t).foreign
  side_among t number place at =
      subst (λ (key : ForeignKey). IsIn key (table_at D.tables t).foreign) (sym (get_or_from_slice_get (table_at D.tables t).foreign number at.0 no_key at.1)) (item_at_index at.0 (table_at D.tables t).foreign number at.1)

  -- ---- facts

  abbrev Lawful : Fact → Type 0
  Lawful f = IsLawful (triple_of base f)

  table_iri_of : (t : ℕ) → IsIri (table_iri base (table_at D.tables t).name)
  table_iri_of t = table_lawful base is (table_at D.tables t).name (table_text t)

  column_fact : (t k : ℕ) (c : Column) → slice_get (table_at D.tables t).columns k ≡ Some c → (place : Place) (f : Fact) → ColumnStandsAt base (table_at D.tables t) c place f → Lawful f
  column_fact t k c at place f (column_property p e) =
      subst Lawful (sym e) (record { subject = column_lawful base is (record { table = (table_at D.tables t).name; column = c.name }) (table_text t) (column_text t k c at); predicate = word_lawful RdfType; object = word_lawful OwlDatatypeProperty })
  column_fact t k c at place f (column_domain p e) =
      subst Lawful (sym e) (record { subject = column_lawful base is (record { table = (table_at D.tables t).name; column = c.name }) (table_text t) (column_text t k c at); predicate = word_lawful RdfsDomain; object = table_iri_of t })
  column_fact t k c at place f (column_range p e) =
      subst Lawful (sym e) (record { subject = column_lawful base is (record { table = (table_at D.tables t).name; column = c.name }) (table_text t) (column_text t k c at); predicate = word_lawful RdfsRange; object = word_lawful (Datatype c.kind) })

  reference_iri_of : (t : ℕ) (key : ForeignKey) → IsIri (link_iri base (reference_of (table_at D.tables t) key))
  reference_iri_of t key = link_lawful base is (reference_of (table_at D.tables t) key) (reference_text t key)

  relation_iri_of : (t : ℕ) (sides : Binary) → IsIri (link_iri base (relation_of D.tables t sides))
  relation_iri_of t sides = link_lawful base is (relation_of D.tables t sides) (relation_text t sides)

  reference_fact : (t : ℕ) (key : ForeignKey) (place : Place) (f : Fact) → ReferenceStandsAt base D.tables (table_at D.tables t) key place f → Lawful f
  reference_fact t key place f (reference_property p e) = subst Lawful (sym e) (record { subject = reference_iri_of t key; predicate = word_lawful RdfType; object = word_lawful OwlObjectProperty })
  reference_fact t key place f (reference_domain p e) = subst Lawful (sym e) (record { subject = reference_iri_of t key; predicate = word_lawful RdfsDomain; object = table_iri_of t })
  reference_fact t key place f (reference_range p e) = subst Lawful (sym e) (record { subject = reference_iri_of t key; predicate = word_lawful RdfsRange; object = table_iri_of key.target })

  relation_fact : (t : ℕ) (sides : Binary) (place : Place) (f : Fact) → RelationStandsAt base D.tables t sides place f → Lawful f
  relation_fact t sides place f (relation_property p e) = subst Lawful (sym e) (record { subject = relation_iri_of t sides; predicate = word_lawful RdfType; object = word_lawful OwlObjectProperty })
  relation_fact t sides place f (relation_domain p e) =
      subst Lawful (sym e) (record { subject = relation_iri_of t sides; predicate = word_lawful RdfsDomain; object = table_iri_of (left_key D.tables t sides).target })
  relation_fact t sides place f (relation_range p e) =
      subst Lawful (sym e) (record { subject = relation_iri_of t sides; predicate = word_lawful RdfsRange; object = table_iri_of (right_key D.tables t sides).target })

  ontology_fact : (graph : GraphName) (t : ℕ) (place : Place) (f : Fact) → OntologyStandsAt graph base D.tables t place f → Lawful f
  ontology_fact graph t place f (of_class c p e) = subst Lawful (sym e) (record { subject = table_iri_of t; predicate = word_lawful RdfType; object = word_lawful OwlClass })
  ontology_fact graph t place f (of_column c k column rest at p h) = column_fact t k column at rest f h
  ontology_fact graph t place f (of_reference c k key rest at p h) = reference_fact t key rest f h
  ontology_fact graph t place f (of_relation sides c h) = relation_fact t sides place f h

  row_fact : (t i : ℕ) → HasRow D t i → (place : Place) (f : Fact) → RowStandsAt base D t i place f → Lawful f
  row_fact t i has place f (row_type p e) = subst Lawful (sym e) (record { subject = node_lawful t i has; predicate = word_lawful RdfType; object = table_iri_of t })
  row_fact t i has place f (row_literal k column v at cell p e) =
      let lawful : IsLawfulValue v = subst IsLawfulCell (get_or_from_slice_get (row_at (rows_at D.rows t) i) k (Some v) None cell) (rows_lawful D.tables D.rows database.rows t i k) in
      subst Lawful (sym e) (record {
        subject = node_lawful t i has;
        predicate = column_lawful base is (record { table = (table_at D.tables t).name; column = column.name }) (table_text t) (column_text t k column at);
        object = (form_text v lawful, type_lawful (kind_of v));
      })
  row_fact t i has place f (row_reference k j key at r p e) =
      let to = referenced t i j key has.table (item_at_index key (table_at D.tables t).foreign k at) r in
      subst Lawful (sym e) (record { subject = node_lawful t i has; predicate = reference_iri_of t key; object = node_object (row_node base D key.target j) (node_lawful key.target j to) })

  pair_fact : (graph : GraphName) (t i j l : ℕ) (sides : Binary) → t < length D.tables → CountsAsRelation graph D.tables t sides → References D t i (left_key D.tables t sides) j
      → References D t i (right_key D.tables t sides) l
      → Lawful (a_link (row_node base D (left_key D.tables t sides).target j) (relation_of D.tables t sides) (row_node base D (right_key D.tables t sides).target l))
  pair_fact Direct t i j l sides below c a b = absurd c
  pair_fact MapKeys t i j l sides below c a b = absurd c
  pair_fact Map t i j l sides below c a b =
      let left = left_key D.tables t sides in
      let right = right_key D.tables t sides in
      let from = referenced t i j left below (side_among t sides.left 0 c.left) a in
      let to = referenced t i l right below (side_among t sides.right 1 c.right) b in
      record { subject = node_lawful left.target j from; predicate = relation_iri_of t sides; object = node_object (row_node base D right.target l) (node_lawful right.target l to) }

  graph_row_fact : (graph : GraphName) (t i : ℕ) → HasRow D t i → (place : Place) (f : Fact) → GraphRowStandsAt graph base D t i place f → Lawful f
  graph_row_fact graph t i has place f (row_of_class c h) = row_fact t i has place f h
  graph_row_fact graph t i has place f (row_of_relation sides j l c a b p e) = subst Lawful (sym e) (pair_fact graph t i j l sides has.table c a b)
  graph_row_fact graph t i has place f (row_mark m k v p e) =
      let node = node_lawful t i has in
      subst Lawful (sym e) (record { subject = node; predicate = word_lawful OwlDifferentFrom; object = node_object (row_node base D t i) node })

  fact_lawful : (graph : GraphName) (place : Place) (f : Fact) → StandsAt graph base D place f → Lawful f
  fact_lawful graph place f (of_ontology has t rest below p h) = ontology_fact graph t rest f h
  fact_lawful graph place f (of_row t i rest has p h) = graph_row_fact graph t i has rest f h

  pub triple_lawful : (graph : GraphName) (x : Statement) → IsTripleOf graph base D x → IsLawful x
  triple_lawful graph x h = subst IsLawful (sym h.2) (fact_lawful graph h.1.0 h.0 h.1.1)
