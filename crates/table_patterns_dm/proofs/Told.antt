-- What the triples of a graph with certain predicates say of the rows of its database.
use Rattle.std.proofs.Common.{◌≡◌, ◌⊎◌, ◌<◌, ℕ, List, [], ◌∷◌, ◌++◌, Some, codes, length, map, refl, sym, ap, ◌∙◌, subst, inl, inr, arith}
use Rattle.std.specs.Prelude.{slice_get}
use Rattle.std.specs.Option.{option_map}
use Rattle.std.proofs.lemmas.Option.{same_Some, slice_get-get_or, slice_get-map}
use Rattle.value_dm.specs.declared.value.Value.{Value}
use Rattle.members_dm.specs.Membership.{IsIn}
use Rattle.members_dm.specs.Places.{Place}
use Rattle.members_dm.proofs.AnyLemmas.{any_from_item}
use Rattle.members_dm.proofs.ElementsLemmas.{item_at_index, item_within, one_index}
use Rattle.members_dm.proofs.MembershipLemmas.{IsIn-map}
use Rattle.names_dm.specs.Names.{column_iri, ref_iri, rel_iri, table_iri}
use Rattle.names_dm.specs.Statements.{Statement}
use Rattle.names_dm.specs.declared.names.ColumnName.{ColumnName}
use Rattle.names_dm.specs.declared.names.RefName.{RefName}
use Rattle.names_dm.specs.declared.names.RelName.{RelName}
use Rattle.names_dm.specs.declared.term.Term.TheVariants as terms
use Rattle.names_dm.proofs.NamesApart.{names_apart}
use Rattle.schema_dm.specs.Naming.{Name, column_names, name_at}
use Rattle.schema_dm.specs.Schemas.{IsForeignKey, IsSchema, IsTable, no_table, table_at}
use Rattle.schema_dm.specs.declared.draft.Column.{Column}
use Rattle.schema_dm.specs.declared.table.Binary.{Binary}
use Rattle.schema_dm.specs.declared.table.ForeignKey.{ForeignKey}
use Rattle.schema_dm.specs.declared.table.Table.{Table}
use Rattle.facts_dm.specs.Facts.{Fact, KindText, Link, Node, a_cell, a_class, a_domain, a_link, a_link_range, a_mark, a_node, a_property, a_range, an_object, link_iri, ref_link, rel_link, triple_of}
use Rattle.facts_dm.specs.Meanings.{NamingLaws, meaning, of_property, of_table, of_word, told_link}
use Rattle.facts_dm.specs.Vocabulary.{word_iri}
use Rattle.facts_dm.specs.declared.word.Word.{Word}
use Rattle.facts_dm.specs.declared.word.Word.TheVariants.{RdfType, RdfsDomain, RdfsRange, OwlDifferentFrom, OwlClass, OwlDatatypeProperty, OwlObjectProperty}
use Rattle.table_csv.specs.Databases.{Data, IsDatabase, rows_at}
use Rattle.keys_dm.specs.KeyCells.{row_at}
use Rattle.graphs_dm.specs.Graphs.{GraphRowStandsAt, IsFactOf, IsTripleOf, StandsAt, of_ontology, of_row, row_mark, row_of_class, row_of_relation}
use Rattle.graphs_dm.specs.Nodes.{row_node}
use Rattle.graphs_dm.specs.Ontology.{ColumnStandsAt, OntologyStandsAt, ReferenceStandsAt, RelationStandsAt, column_domain, column_property, column_range, of_class, of_column, of_reference, of_relation, reference_domain, reference_property, reference_range, relation_domain, relation_property, relation_range}
use Rattle.graphs_dm.specs.OwnNodes.{HasRow}
use Rattle.graphs_dm.specs.Relations.{CountsAsClass, CountsAsRelation, left_key, relation_name, relation_of, right_key}
use Rattle.graphs_dm.specs.RowFacts.{References, RowStandsAt, reference_of, row_literal, row_reference, row_type, value_text}
use Rattle.graphs_dm.specs.declared.graph_name.GraphName.{GraphName}
use Rattle.graph_layouts_dm.proofs.Columns.{column_there, name_at_is}

-- ---- tables by their names

pub is_table : (tables : List Table) (t : ℕ) → IsSchema tables → t < length tables → IsTable tables (table_at tables t)
is_table tables t schema below = schema.each (table_at tables t) (item_within tables t no_table below)

pub one_table : (tables : List Table) (t u : ℕ) → IsSchema tables → t < length tables → u < length tables → (table_at tables t).name ≡ (table_at tables u).name → t ≡ u
one_table tables t u schema in_t in_u e =
    one_index (map (λ (table : Table). table.name) tables) (table_at tables t).name t u schema.names
    (slice_get-map (λ (table : Table). table.name) tables t ∙ ap (option_map (λ (table : Table). table.name)) (slice_get-get_or tables t no_table in_t))
    (slice_get-map (λ (table : Table). table.name) tables u ∙ ap (option_map (λ (table : Table). table.name)) (slice_get-get_or tables u no_table in_u) ∙ ap Some (sym e))

-- ---- facts of rows

module _ (graph : GraphName) (base : List ℕ) (D : Data) where
  pub record IsTypeOfRow (n : Node) (name : Name) : Type 0 where
    pub table : ℕ
    pub row : ℕ
    pub has : HasRow D table row
    pub class : CountsAsClass graph D.tables table
    pub node : n ≡ row_node base D table row
    pub named : name ≡ (table_at D.tables table).name

  pub record IsCellOfRow (n : Node) (c : ColumnName) (v : KindText) : Type 0 where
    pub table : ℕ
    pub row : ℕ
    pub place : ℕ
    pub column : Column
    pub value : Value
    pub has : HasRow D table row
    pub at : slice_get (table_at D.tables table).columns place ≡ Some column
    pub cell : slice_get (row_at (rows_at D.rows table) row) place ≡ Some (Some value)
    pub node : n ≡ row_node base D table row
    pub named : c ≡ record { table = (table_at D.tables table).name; column = column.name }
    pub text : v ≡ value_text value

  pub record IsReferenceOfRow (l : Link) : Type 0 where
    pub table : ℕ
    pub key : ForeignKey
    pub below : table < length D.tables
    pub among : IsIn key (table_at D.tables table).foreign
    pub named : l ≡ reference_of (table_at D.tables table) key

  pub record IsRelationOfRow (n : Node) (l : Link) (m : Node) : Type 0 where
    pub table : ℕ
    pub row : ℕ
    pub sides : Binary
    pub left : ℕ
    pub right : ℕ
    pub has : HasRow D table row
    pub relation : CountsAsRelation graph D.tables table sides
    pub from : References D table row (left_key D.tables table sides) left
    pub to : References D table row (right_key D.tables table sides) right
    pub named : l ≡ relation_of D.tables table sides
    pub first : n ≡ row_node base D (left_key D.tables table sides).target left
    pub second : m ≡ row_node base D (right_key D.tables table sides).target right

  -- what a fact of the graph says of a row
  abbrev pub Told : Fact → Type 0
  Told (a_node n name) = IsTypeOfRow n name
  Told (a_cell n c v) = IsCellOfRow n c v
  Told (a_link n l m) = IsReferenceOfRow l ⊎ IsRelationOfRow n l m
  Told (a_class t) = Unit {0}
  Told (a_property c) = Unit {0}
  Told (an_object l) = Unit {0}
  Told (a_domain i t) = Unit {0}
  Told (a_range c k) = Unit {0}
  Told (a_link_range l t) = Unit {0}
  Told (a_mark n) = Unit {0}

  of_class_row : (t i : ℕ) → HasRow D t i → CountsAsClass graph D.tables t → (rest : Place) (f : Fact) → RowStandsAt base D t i rest f → Told f
  of_class_row t i has class rest f (row_type p e) = subst Told (sym e) (record { table = t; row = i; has = has; class = class; node = refl; named = refl })
  of_class_row t i has class rest f (row_literal k column value at cell p e) =
      subst Told (sym e) (record { table = t; row = i; place = k; column = column; value = value; has = has; at = at; cell = cell; node = refl; named = refl; text = refl })
  of_class_row t i has class rest f (row_reference k j key at match p e) =
      subst Told (sym e) (inl (record { table = t; key = key; below = has.table; among = item_at_index key (table_at D.tables t).foreign k at; named = refl }))

  of_graph_row : (t i : ℕ) → HasRow D t i → (rest : Place) (f : Fact) → GraphRowStandsAt graph base D t i rest f → Told f
  of_graph_row t i has rest f (row_of_class class h) = of_class_row t i has class rest f h
  of_graph_row t i has rest f (row_of_relation sides j l is from to p e) =
      subst Told (sym e) (inr (record { table = t; row = i; sides = sides; left = j; right = l; has = has; relation = is; from = from; to = to; named = refl; first = refl; second = refl }))
  of_graph_row t i has rest f (row_mark marks kind violates p e) = subst Told (sym e) tt

  of_column_fact : (t : ℕ) (column : Column) (rest : Place) (f : Fact) → ColumnStandsAt base (table_at D.tables t) column rest f → Told f
  of_column_fact t column rest f (column_property p e) = subst Told (sym e) tt
  of_column_fact t column rest f (column_domain p e) = subst Told (sym e) tt
  of_column_fact t column rest f (column_range p e) = subst Told (sym e) tt

  of_reference_fact : (t : ℕ) (key : ForeignKey) (rest : Place) (f : Fact) → ReferenceStandsAt base D.tables (table_at D.tables t) key rest f → Told f
  of_reference_fact t key rest f (reference_property p e) = subst Told (sym e) tt
  of_reference_fact t key rest f (reference_domain p e) = subst Told (sym e) tt
  of_reference_fact t key rest f (reference_range p e) = subst Told (sym e) tt

  of_relation_fact : (t : ℕ) (sides : Binary) (rest : Place) (f : Fact) → RelationStandsAt base D.tables t sides rest f → Told f
  of_relation_fact t sides rest f (relation_property p e) = subst Told (sym e) tt
  of_relation_fact t sides rest f (relation_domain p e) = subst Told (sym e) tt
  of_relation_fact t sides rest f (relation_range p e) = subst Told (sym e) tt

  of_ontology_fact : (t : ℕ) (rest : Place) (f : Fact) → OntologyStandsAt graph base D.tables t rest f → Told f
  of_ontology_fact t rest f (of_class class p e) = subst Told (sym e) tt
  of_ontology_fact t rest f (of_column class k column r at p h) = of_column_fact t column r f h
  of_ontology_fact t rest f (of_reference class k key r at p h) = of_reference_fact t key r f h
  of_ontology_fact t rest f (of_relation sides is h) = of_relation_fact t sides rest f h

  pub told : (f : Fact) → IsFactOf graph base D f → Told f
  told f h = go h.0 h.1
    where
      go : (place : Place) → StandsAt graph base D place f → Told f
      go place (of_ontology has t rest below p k) = of_ontology_fact t rest f k
      go place (of_row t i rest has p k) = of_graph_row t i has rest f k

  -- ---- by the predicate

  module _ (database : IsDatabase D) (laws : NamingLaws base) where
    pub word_property : (w : Word) (text : List ℕ) → meaning base text ≡ of_property → word_iri w ≡ text → ⊥
    word_property w text is e = let same : of_word w ≡ of_property = sym (laws.word_meaning w) ∙ ap (meaning base) e ∙ is in cc

    word_table : (w : Word) (t : Name) → word_iri w ≡ table_iri base t → ⊥
    word_table w t e = let same : of_word w ≡ of_table t = sym (laws.word_meaning w) ∙ ap (meaning base) e ∙ laws.table_meaning t in cc

    pub word_word : (w v : Word) → word_iri w ≡ word_iri v → w ≡ v
    word_word w v e = let same : of_word w ≡ of_word v = sym (laws.word_meaning w) ∙ ap (meaning base) e ∙ laws.word_meaning v in cc

    iri_same : (a b : List ℕ) → terms.Iri a ≡ terms.Iri b → a ≡ b
    iri_same a b e = cc

    -- a triple that says of which class something is
    type_of : (name : Name) (f : Fact) → Told f → (triple_of base f).predicate ≡ word_iri RdfType → (triple_of base f).object ≡ terms.Iri (table_iri base name) → (n : Node) × (f ≡ a_node n name)
    type_of name (a_class t) h p o = absurd (word_table OwlClass name (iri_same _ _ o))
    type_of name (a_property c) h p o = absurd (word_table OwlDatatypeProperty name (iri_same _ _ o))
    type_of name (an_object l) h p o = absurd (word_table OwlObjectProperty name (iri_same _ _ o))
    type_of name (a_domain i t) h p o = absurd (let same = word_word RdfsDomain RdfType p in cc)
    type_of name (a_range c k) h p o = absurd (let same = word_word RdfsRange RdfType p in cc)
    type_of name (a_link_range l t) h p o = absurd (let same = word_word RdfsRange RdfType p in cc)
    type_of name (a_node n t) h p o = (n, ap (a_node n) (tables_same t name (iri_same _ _ o)))
      where
        tables_same : (t u : Name) → table_iri base t ≡ table_iri base u → t ≡ u
        tables_same t u e = let same : of_table t ≡ of_table u = sym (laws.table_meaning t) ∙ ap (meaning base) e ∙ laws.table_meaning u in cc
    type_of name (a_cell n c v) h p o = absurd (word_property RdfType (column_iri base c) (laws.column_meaning c) (sym p))
    type_of name (a_link n l m) h p o = absurd (word_property RdfType (link_iri base l) (laws.link_meaning l) (sym p))
    type_of name (a_mark n) h p o = absurd (let same = word_word OwlDifferentFrom RdfType p in cc)

    -- the first of the key's columns alone has this name
    one_column : (columns : List Column) (places : List ℕ) (x : Name) → map (name_at columns) places ≡ x ∷ [] → (p : ℕ) × (places ≡ p ∷ []) × (name_at columns p ≡ x)
    one_column columns [] x e = absurd (cc)
    one_column columns (p ∷ []) x e = (p, refl, heads (name_at columns p) x e)
      where
        heads : (a b : Name) → a ∷ [] ≡ b ∷ [] → a ≡ b
        heads a b f = cc
    one_column columns (p ∷ q ∷ places) x e = absurd (let f : name_at columns p ∷ name_at columns q ∷ map (name_at columns) places ≡ x ∷ [] = e in cc)

    -- no column of a table has the name of a reference of the table
    no_reference : (t : ℕ) (x : Name) → t < length D.tables → IsIn x (column_names (table_at D.tables t).columns) → (l : Link) → IsReferenceOfRow l
        → link_iri base l ≡ column_iri base (record { table = (table_at D.tables t).name; column = x }) → ⊥
    no_reference t x below here l h e = go (h.key.columns) refl
      where
        u : ℕ
        u = h.table

        table : Table
        table = table_at D.tables u

        lawful : IsForeignKey D.tables table h.key
        lawful = (is_table D.tables u database.schema h.below).foreign h.key h.among

        clash : (column : Name) → map (name_at table.columns) h.key.columns ≡ column ∷ [] → (table_at D.tables t).name ≡ table.name → x ≡ codes "ref-" ++ column → ⊥
        clash column one name named =
            let same : t ≡ u = one_table D.tables t u database.schema below h.below name in
            let p = one_column table.columns h.key.columns column one in
            let within : p.0 < length table.columns = lawful.columns.within p.0 (subst (λ ps. IsIn p.0 ps) (sym p.1) (inl refl)) in
            let col = column_there table.columns p.0 within in
            let declared = IsIn-map (λ (c : Column). c.name) x table.columns (subst (λ s. IsIn x (column_names (table_at D.tables s).columns)) same here) in
            (is_table D.tables u database.schema h.below).no_clash h.key p.0 col.0 h.among p.1 col.1
            (any_from_item (λ (y : Column). y.name ≡ codes "ref-" ++ col.0.name) declared.0 table.columns declared.1
            (declared.2 ∙ named ∙ ap (λ n. codes "ref-" ++ n) (sym p.2 ∙ name_at_is table.columns p.0 col.0 col.1)))

        go : (places : List ℕ) → h.key.columns ≡ places → ⊥
        go [] none = absurd (let s : 0 < 0 = subst (λ ps. 0 < length ps) none lawful.columns.some in omega (arith, s))
        go (p ∷ places) cons =
            let reference : RefName = record { table = table.name; columns = name_at table.columns p ∷ map (name_at table.columns) places } in
            let is : link_iri base l ≡ ref_iri base reference = ap (link_iri base) h.named ∙ ap (λ ps. link_iri base (ref_link (record { table = table.name; columns = map (name_at table.columns) ps }))) cons in
            let c = (names_apart base).column_ref (record { table = (table_at D.tables t).name; column = x }) reference (λ s. cc) (sym e ∙ is) in
            clash c.0 (ap (map (name_at table.columns)) cons ∙ c.1) (ap (λ (n : ColumnName). n.table) c.2) (ap (λ (n : ColumnName). n.column) c.2)

    -- a triple that says what something has in a column
    cell_of : (t : ℕ) (x : Name) → t < length D.tables → IsIn x (column_names (table_at D.tables t).columns) → (f : Fact) → Told f
        → (triple_of base f).predicate ≡ column_iri base (record { table = (table_at D.tables t).name; column = x })
        → (n : Node) × (v : KindText) × (f ≡ a_cell n (record { table = (table_at D.tables t).name; column = x }) v)
    cell_of t x below here f h p = go f h p
      where
        c : ColumnName
        c = record { table = (table_at D.tables t).name; column = x }

        never : (w : Word) → word_iri w ≡ column_iri base c → ⊥
        never w e = word_property w (column_iri base c) (laws.column_meaning c) e

        go : (f : Fact) → Told f → (triple_of base f).predicate ≡ column_iri base c → (n : Node) × (v : KindText) × (f ≡ a_cell n c v)
        go (a_class t) h p = absurd (never RdfType p)
        go (a_property d) h p = absurd (never RdfType p)
        go (an_object l) h p = absurd (never RdfType p)
        go (a_domain i t) h p = absurd (never RdfsDomain p)
        go (a_range d k) h p = absurd (never RdfsRange p)
        go (a_link_range l t) h p = absurd (never RdfsRange p)
        go (a_node n t) h p = absurd (never RdfType p)
        go (a_cell n d v) h p = (n, v, ap (λ e. a_cell n e v) ((names_apart base).columns d c p))
        go (a_link n l m) (inl h) p = absurd (no_reference t x below here l h p)
        go (a_link n l m) (inr h) p = absurd ((names_apart base).column_rel c (relation_name D.tables h.table h.sides) (sym p ∙ ap (link_iri base) h.named))
        go (a_mark n) h p = absurd (never OwlDifferentFrom p)

    -- a triple that says where a relation leads
    link_of : (r : RelName) (f : Fact) → Told f → (triple_of base f).predicate ≡ rel_iri base r → (n m : Node) × (f ≡ a_link n (rel_link r) m)
    link_of r f h p = go f h p
      where
        never : (w : Word) → word_iri w ≡ rel_iri base r → ⊥
        never w e = word_property w (rel_iri base r) (laws.link_meaning (rel_link r)) e

        go : (f : Fact) → Told f → (triple_of base f).predicate ≡ rel_iri base r → (n m : Node) × (f ≡ a_link n (rel_link r) m)
        go (a_class t) h p = absurd (never RdfType p)
        go (a_property d) h p = absurd (never RdfType p)
        go (an_object l) h p = absurd (never RdfType p)
        go (a_domain i t) h p = absurd (never RdfsDomain p)
        go (a_range d k) h p = absurd (never RdfsRange p)
        go (a_link_range l t) h p = absurd (never RdfsRange p)
        go (a_node n t) h p = absurd (never RdfType p)
        go (a_cell n d v) h p = absurd ((names_apart base).column_rel d r p)
        go (a_link n l m) h p = (n, m, ap (λ k. a_link n k m) (same_Some l (rel_link r) (sym (laws.link_told l) ∙ ap (told_link base) p ∙ laws.link_told (rel_link r))))
        go (a_mark n) h p = absurd (never OwlDifferentFrom p)

    -- ---- the graph's triples by their predicates

    pub type_told : (name : Name) (s : Statement) → IsTripleOf graph base D s → s.predicate ≡ word_iri RdfType → s.object ≡ terms.Iri (table_iri base name)
        → (n : Node) × IsTypeOfRow n name × (s ≡ triple_of base (a_node n name))
    type_told name s h p o =
        let k = type_of name h.0 (told h.0 h.1) (ap (λ (x : Statement). x.predicate) (sym h.2) ∙ p) (ap (λ (x : Statement). x.object) (sym h.2) ∙ o) in
        (k.0, subst Told k.1 (told h.0 h.1), h.2 ∙ ap (triple_of base) k.1)

    pub cell_told : (t : ℕ) (x : Name) → t < length D.tables → IsIn x (column_names (table_at D.tables t).columns) → (s : Statement) → IsTripleOf graph base D s
        → s.predicate ≡ column_iri base (record { table = (table_at D.tables t).name; column = x })
        → (n : Node) × (v : KindText) × IsCellOfRow n (record { table = (table_at D.tables t).name; column = x }) v
        × (s ≡ triple_of base (a_cell n (record { table = (table_at D.tables t).name; column = x }) v))
    cell_told t x below here s h p =
        let k = cell_of t x below here h.0 (told h.0 h.1) (ap (λ (y : Statement). y.predicate) (sym h.2) ∙ p) in
        (k.0, k.1, subst Told k.2 (told h.0 h.1), h.2 ∙ ap (triple_of base) k.2)

    pub link_told : (r : RelName) (s : Statement) → IsTripleOf graph base D s → s.predicate ≡ rel_iri base r
        → (n m : Node) × (IsReferenceOfRow (rel_link r) ⊎ IsRelationOfRow n (rel_link r) m) × (s ≡ triple_of base (a_link n (rel_link r) m))
    link_told r s h p =
        let k = link_of r h.0 (told h.0 h.1) (ap (λ (y : Statement). y.predicate) (sym h.2) ∙ p) in
        (k.0, k.1, subst Told k.2 (told h.0 h.1), h.2 ∙ ap (triple_of base) k.2)
