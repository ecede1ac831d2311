-- A class of a graph has one type: it is a class.
use Rattle.std.proofs.Common.{◌≡◌, ◌∙◌, ◌<◌, ℕ, List, [], ◌∷◌, Bool, true, false, cond, length, refl, sym, ap}
use Rattle.names_dm.specs.Names.{column_iri, table_iri}
use Rattle.names_dm.specs.Rows.{row_iri}
use Rattle.names_dm.specs.Statements.{Statement}
use Rattle.names_dm.specs.declared.key.KeyPart.{KeyPart}
use Rattle.names_dm.specs.declared.term.Term.{Term}
use Rattle.names_dm.specs.declared.term.Term.TheVariants as terms
use Rattle.names_dm.proofs.Keys.{rows_apart}
use Rattle.schema_dm.specs.Naming.{Name}
use Rattle.schema_dm.specs.Schemas.{table_at}
use Rattle.facts_dm.specs.Facts.{Fact, a_cell, a_class, a_domain, a_link, a_link_range, a_mark, a_node, a_property, a_range, an_object, blank, iri, link_iri, node_term, triple_of}
use Rattle.facts_dm.specs.Meanings.{NamingLaws, meaning, of_property, of_table}
use Rattle.facts_dm.specs.Vocabulary.{word_iri}
use Rattle.facts_dm.specs.declared.word.Word.TheVariants.{OwlClass, OwlDifferentFrom, RdfType, RdfsDomain, RdfsRange}
use Rattle.table_csv.specs.Databases.{Data, IsDatabase}
use Rattle.graphs_dm.specs.Graphs.{HasOntology, IsTripleOf, of_ontology}
use Rattle.graphs_dm.specs.Nodes.{row_node}
use Rattle.graphs_dm.specs.Ontology.{of_class}
use Rattle.graphs_dm.specs.Relations.{CountsAsClass}
use Rattle.graphs_dm.specs.declared.graph_name.GraphName.{GraphName}
use Rattle.table_patterns_dm.proofs.Told.{Told, told, word_property, word_word}

-- the triple of a type
abbrev pub typed : List ℕ → Term → Statement
typed subject object = record { subject = terms.Iri subject; predicate = word_iri RdfType; object = object }

module _ (graph : GraphName) (base : List ℕ) (D : Data) where
  pub class_typed : HasOntology graph → (t : ℕ) → t < length D.tables → CountsAsClass graph D.tables t → IsTripleOf graph base D (typed (table_iri base (table_at D.tables t).name) (terms.Iri (word_iri OwlClass)))
  class_typed has t below class = (a_class (table_at D.tables t).name, (0 ∷ t ∷ 0 ∷ [], of_ontology has t (0 ∷ []) below refl (of_class class refl refl)), refl)

  -- no row has the IRI of a table
  no_row : (t i : ℕ) (name : Name) → terms.Iri (table_iri base name) ≡ node_term (row_node base D t i) → ⊥
  unfolding row_node
  no_row t i name e = go _ (table_at D.tables t).name _ _ e
    where
      go : (own : Bool) (table : Name) (key : List KeyPart) (label : List ℕ) → terms.Iri (table_iri base name) ≡ node_term (cond own (iri (row_iri base table key)) (blank label)) → ⊥
      go true table key label s = (rows_apart base).row_table table key name (iris (row_iri base table key) (table_iri base name) (sym s))
        where
          iris : (a b : List ℕ) → terms.Iri a ≡ terms.Iri b → a ≡ b
          iris a b s = cc
      go false table key label s = cc

  module _ (database : IsDatabase D) (laws : NamingLaws base) where
    iri_of : (a b : List ℕ) → terms.Iri a ≡ terms.Iri b → a ≡ b
    iri_of a b e = cc

    no_property : (name : Name) (text : List ℕ) → meaning base text ≡ of_property → terms.Iri (table_iri base name) ≡ terms.Iri text → ⊥
    no_property name text is e = let same : of_table name ≡ of_property = sym (laws.table_meaning name) ∙ ap (meaning base) (iri_of _ _ e) ∙ is in cc

    only_class : (name : Name) (o : Term) (f : Fact) → Told graph base D f → (triple_of base f).subject ≡ terms.Iri (table_iri base name) → (triple_of base f).predicate ≡ word_iri RdfType → (triple_of base f).object ≡ o
        → o ≡ terms.Iri (word_iri OwlClass)
    only_class name o (a_class t) h s p e = sym e
    only_class name o (a_property c) h s p e = absurd (no_property name (column_iri base c) (laws.column_meaning c) (sym s))
    only_class name o (an_object l) h s p e = absurd (no_property name (link_iri base l) (laws.link_meaning l) (sym s))
    only_class name o (a_domain i t) h s p e = absurd (let same = word_word graph base D database laws RdfsDomain RdfType p in cc)
    only_class name o (a_range c k) h s p e = absurd (let same = word_word graph base D database laws RdfsRange RdfType p in cc)
    only_class name o (a_link_range l t) h s p e = absurd (let same = word_word graph base D database laws RdfsRange RdfType p in cc)
    only_class name o (a_node n t) h s p e = absurd (no_row h.table h.row name (sym s ∙ ap node_term h.node))
    only_class name o (a_cell n c v) h s p e = absurd (word_property graph base D database laws RdfType (column_iri base c) (laws.column_meaning c) (sym p))
    only_class name o (a_link n l m) h s p e = absurd (word_property graph base D database laws RdfType (link_iri base l) (laws.link_meaning l) (sym p))
    only_class name o (a_mark n) h s p e = absurd (let same = word_word graph base D database laws OwlDifferentFrom RdfType p in cc)

    pub class_alone : (name : Name) (o : Term) → IsTripleOf graph base D (typed (table_iri base name) o) → o ≡ terms.Iri (word_iri OwlClass)
    class_alone name o h =
        only_class name o h.0 (told graph base D h.0 h.1) (ap (λ (x : Statement). x.subject) (sym h.2)) (ap (λ (x : Statement). x.predicate) (sym h.2)) (ap (λ (x : Statement). x.object) (sym h.2))
