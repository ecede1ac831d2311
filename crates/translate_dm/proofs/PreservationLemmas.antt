-- The pattern of a query keeps its answers, where the pattern of each table does.
use Rattle.std.proofs.Common.{◌≡◌, ℕ, List, sym, subst, ⊎_elim}
use Rattle.names_dm.specs.Statements.{Statement}
use Rattle.names_dm.specs.declared.term.Term.{Term}
use Rattle.names_dm.specs.declared.term.Term.TheVariants as terms
use Rattle.facts_dm.specs.Vocabulary.{word_iri}
use Rattle.facts_dm.specs.Meanings.{NamingLaws}
use Rattle.facts_dm.specs.declared.word.Word.TheVariants.{OwlClass, RdfType}
use Rattle.schema_dm.specs.Naming.{Name}
use Rattle.schema_dm.specs.Schemas.{table_at}
use Rattle.table_csv.specs.Databases.{Data, IsDatabase}
use Rattle.algebra_dm.specs.Certain.{KeepsKeysOf}
use Rattle.algebra_dm.specs.Nodes.{IsFaultless}
use Rattle.algebra_dm.specs.Tuples.{Tuple, IsRowOfTable, IsTuple}
use Rattle.algebra_dm.specs.declared.query.Mode.{Mode}
use Rattle.algebra_dm.specs.declared.query.Mode.TheVariants.{Map, MapKeys}
use Rattle.algebra_dm.specs.declared.query.Query.{Query, end_of-Query, more_of-Query}
use Rattle.algebra_dm.specs.declared.query.Query.TheVariants.{Table, Null, Eq', Ne', IsNull', NotNull', Project', Rename', Join', Union', Diff'}
use Rattle.graphs_dm.specs.Graphs.{HasOntology, IsTripleOf}
use Rattle.pattern_dm.specs.declared.pattern.Pattern.{Pattern}
use Rattle.keeping_dm.specs.Keeping.{Keeps}
use Rattle.keeping_dm.specs.LawfulValues.{HasLawfulValues}
use Rattle.keeping_dm.proofs.KeepLemmas.{keeps_empty}
use Rattle.keeping_dm.proofs.QueryLemmas.{query_eq, query_guarded, query_is_null, query_join, query_minus, query_ne, query_not_null, query_project, query_rename, query_union}
use Rattle.keeping_dm.proofs.TupleLemmas.{left_part, node, part, right_part, whole}
use Rattle.table_patterns_dm.specs.TablePatterns.{graph_of}
use Rattle.table_patterns_dm.proofs.ClassTriples.{class_alone, class_typed}
use Rattle.table_patterns_dm.proofs.TableLaw.{named_law}
use Rattle.translate_dm.specs.Translation.{IsMarkerClass, IsNamedPattern, Translates}

-- the class has this type in the graph, and no other
pub record HasOneType (g : Statement → Type 0) (class : List ℕ) : Type 0 where
  pub type : Term
  pub typed : g (record { subject = terms.Iri class; predicate = word_iri RdfType; object = type })
  pub one : (o : Term) → g (record { subject = terms.Iri class; predicate = word_iri RdfType; object = o }) → o ≡ type

module _ (mode : Mode) (base : List ℕ) (g : Statement → Type 0) (D : Data) (db : IsDatabase D) (keys : KeepsKeysOf mode D)
    (tables : (name : Name) (p : Pattern) → IsNamedPattern mode base D.tables name p → Keeps g p (IsRowOfTable D name))
    (marker : (class : List ℕ) → IsMarkerClass mode base D.tables class → HasOneType g class) where
  along : (has : Tuple → Type 0) (p r : Pattern) → p ≡ r → Keeps g r has → Keeps g p has
  along has p r e k = subst (λ x. Keeps g x has) (sym e) k

  pub keeps : (q : Query) (p : Pattern) → IsFaultless D.tables q → HasLawfulValues q → Translates mode base D.tables q p → Keeps g p (IsTuple D q)
  keeps (Table name) p f v t = tables name p t
  keeps (Null n) p f v t = along _ p _ t (keeps_empty g)
  keeps (Eq' s (more_of-Query q end_of-Query) n x) p f v t = along _ p _ t.2 (query_eq g D db q t.0 (keeps q t.0 (part D.tables q _ f) v.0 t.1) n x v.1)
  keeps (Ne' s (more_of-Query q end_of-Query) n x) p f v t = along _ p _ t.2 (query_ne g D db q t.0 (keeps q t.0 (part D.tables q _ f) v.0 t.1) n x v.1)
  keeps (IsNull' s (more_of-Query q end_of-Query) n) p f v t = along _ p _ t.2 (query_is_null g D db q t.0 (keeps q t.0 (part D.tables q _ f) v t.1) n)
  keeps (NotNull' s (more_of-Query q end_of-Query) n) p f v t = along _ p _ t.2 (query_not_null g D db q t.0 (keeps q t.0 (part D.tables q _ f) v t.1) n)
  keeps (Project' s (more_of-Query q end_of-Query) names) p f v t =
      along _ p _ t.4 (query_project g D db q t.0 (keeps q t.0 (part D.tables q _ f) v t.2) (part D.tables q _ f) names t.1 t.3.exact)
  keeps (Rename' s (more_of-Query q end_of-Query) from to) p f v t =
      let fine = node D.tables q _ f in
      along _ p _ t.4 (query_rename g D db q t.0 (keeps q t.0 (part D.tables q _ f) v t.2) (part D.tables q _ f) from to fine.1.1.0 fine.1.1.1.0 t.1 t.3.exact)
  keeps (Join' s (more_of-Query q end_of-Query) s' (more_of-Query r end_of-Query)) p f v t =
      along _ p _ t.6 (query_join g D db q r t.0 t.1 (keeps q t.0 (left_part D.tables q r _ f) v.0 t.3) (keeps r t.1 (right_part D.tables q r _ f) v.1 t.4) (left_part D.tables q r _ f) (right_part D.tables q r _ f) t.2 t.5.exact)
  keeps (Union' s (more_of-Query q end_of-Query) s' (more_of-Query r end_of-Query)) p f v t =
      along _ p _ t.4 (query_union g D db q r t.0 t.1 (keeps q t.0 (left_part D.tables q r _ f) v.0 t.2) (keeps r t.1 (right_part D.tables q r _ f) v.1 t.3))
  keeps (Diff' s (more_of-Query q end_of-Query) s' (more_of-Query r end_of-Query)) p f v t =
      let left = left_part D.tables q r _ f in
      let right = right_part D.tables q r _ f in
      let same = (whole D.tables q r _ f).1.1.1.1.0 in
      let k = keeps q t.0 left v.0 t.2 in
      let l = keeps r t.1 right v.1 t.3 in
      ⊎_elim
      (λ m. along _ p _ m.1 (query_minus g D db q r t.0 t.1 k l left right same mode keys m.0))
      (λ m. let one = marker m.1.1 m.1.3 in along _ p _ m.1.4 (query_guarded g D db q r t.0 t.1 k l left right same m.1.0 m.1.2.exact m.1.1 one.type one.typed one.one))
      t.4

-- ---- the graphs of a database

has_ontology : (mode : Mode) → HasOntology (graph_of mode)
has_ontology Map = tt
has_ontology MapKeys = tt

module _ (mode : Mode) (base : List ℕ) (D : Data) (db : IsDatabase D) (laws : NamingLaws base) (keys : KeepsKeysOf mode D) where
  one_type : (class : List ℕ) → IsMarkerClass mode base D.tables class → HasOneType (IsTripleOf (graph_of mode) base D) class
  one_type class h = subst (HasOneType (IsTripleOf (graph_of mode) base D)) (sym h.2) (record {
    type = terms.Iri (word_iri OwlClass);
    typed = class_typed (graph_of mode) base D (has_ontology mode) h.0 h.1.within h.1.class;
    one = class_alone (graph_of mode) base D db laws (table_at D.tables h.0).name;
  })

  pub query_kept : (q : Query) (p : Pattern) → IsFaultless D.tables q → HasLawfulValues q → Translates mode base D.tables q p → Keeps (IsTripleOf (graph_of mode) base D) p (IsTuple D q)
  query_kept = keeps mode base (IsTripleOf (graph_of mode) base D) D db keys
      (λ name p h. named_law base D db laws mode keys h.0 h.1 name p h.2 h.3 h.4) one_type
