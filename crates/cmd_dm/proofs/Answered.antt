-- One text is written of a query's pattern, and some text is.
use Rattle.std.proofs.Common.{◌≡◌, ◌∙◌, ◌++◌, ◌<◌, ℕ, List, [], ◌∷◌, arith, inl, length, map, refl, sym, subst}
use Rattle.std.specs.Prelude.{codes}
use Rattle.names_dm.specs.Statements.{Statement}
use Rattle.names_dm.specs.Variables.{variable_of}
use Rattle.members_dm.specs.Membership.{IsIn}
use Rattle.schema_dm.specs.Naming.{Name, column_names}
use Rattle.schema_dm.specs.declared.draft.Column.{Column}
use Rattle.schema_dm.specs.Schemas.{IsSchema}
use Rattle.schema_dm.specs.declared.table.Table.{Table}
use Rattle.table_csv.specs.Databases.{Data, IsDatabase}
use Rattle.algebra_dm.specs.Attributes.{AreAttributes, HasAttribute}
use Rattle.algebra_dm.specs.Certain.{KeepsKeysOf}
use Rattle.algebra_dm.specs.Nodes.{IsFaultless, IsWellFormed}
use Rattle.algebra_dm.specs.Tuples.{IsTuple}
use Rattle.algebra_dm.specs.declared.query.Mode.{Mode}
use Rattle.algebra_dm.specs.declared.query.Query.{Query, end_of-Query, more_of-Query}
use Rattle.algebra_dm.specs.declared.query.Query.TheVariants.{Table as TableOf, Null, Eq', Ne', IsNull', NotNull', Project', Rename', Join', Union', Diff'}
use Rattle.algebra_dm.proofs.RisingLemmas.{lists_unique}
use Rattle.graphs_dm.specs.Graphs.{AreTriplesOf, IsTripleOf}
use Rattle.facts_dm.specs.Meanings.{NamingLaws}
use Rattle.pattern_dm.specs.Texts.{query_text}
use Rattle.pattern_dm.specs.declared.pattern.Pattern.{Pattern}
use Rattle.keeping_dm.specs.Keeping.{Keeps}
use Rattle.keeping_dm.specs.LawfulValues.{HasLawfulValues}
use Rattle.keeping_dm.proofs.TupleLemmas.{left_part, node, part}
use Rattle.query_lines_dm.specs.Lines.{AreQueryLines}
use Rattle.pattern_lines_dm.specs.Lines.{AreSolutionLines}
use Rattle.pattern_lines_dm.proofs.KeptLines.{kept_lines}
use Rattle.pattern_lines_dm.proofs.OneText.{solution_lines_one}
use Rattle.pattern_lines_dm.proofs.SomeLines.{solution_lines_some}
use Rattle.table_patterns_dm.specs.TablePatterns.{graph_of}
use Rattle.translate_dm.proofs.PreservationLemmas.{query_kept}
use Rattle.translate_dm.proofs.SomeNames.{attributes_some}
use Rattle.translate_dm.proofs.SomeTranslation.{translation_some}
use Rattle.translate_dm.proofs.UniqueLemmas.{translates_unique}
use Rattle.cmd_dm.specs.Answered.{AreAnswersIn, IsPatternText}

-- a query has an attribute
module _ (tables : List Table) (schema : IsSchema tables) where
  some_column : (columns : List Column) → 0 < length columns → (a : Name) × IsIn a (column_names columns)
  some_column [] n = absurd (omega (arith, n))
  some_column (c ∷ columns) n = (c.name, inl refl)

  some_item : (names : List Name) → ¬ (names ≡ []) → (a : Name) × IsIn a names
  some_item [] n = absurd (n refl)
  some_item (a ∷ names) n = (a, inl refl)

  one_attribute : (q : Query) → IsFaultless tables q → ¬ ((a : Name) → ¬ HasAttribute tables q a)
  one_attribute (TableOf name) f none = f.0.0 (λ h. let found = some_column h.0.columns (schema.each h.0 h.1.0).some_column in none found.0 (h.0, h.1, found.1))
  one_attribute (Null n) f none = none n refl
  one_attribute (Eq' s (more_of-Query p end_of-Query) n v) f none = one_attribute p (part tables p _ f) none
  one_attribute (Ne' s (more_of-Query p end_of-Query) n v) f none = one_attribute p (part tables p _ f) none
  one_attribute (IsNull' s (more_of-Query p end_of-Query) n) f none = one_attribute p (part tables p _ f) none
  one_attribute (NotNull' s (more_of-Query p end_of-Query) n) f none = one_attribute p (part tables p _ f) none
  one_attribute (Project' s (more_of-Query p end_of-Query) names) f none = let found = some_item names (node tables p _ f).1.0 in none found.0 found.1
  one_attribute (Rename' s (more_of-Query p end_of-Query) from to) f none = none to (inl refl)
  one_attribute (Join' s (more_of-Query p end_of-Query) s' (more_of-Query q end_of-Query)) f none = one_attribute p (left_part tables p q _ f) (λ a h. none a (inl h))
  one_attribute (Union' s (more_of-Query p end_of-Query) s' (more_of-Query q end_of-Query)) f none = one_attribute p (left_part tables p q _ f) none
  one_attribute (Diff' s (more_of-Query p end_of-Query) s' (more_of-Query q end_of-Query)) f none = one_attribute p (left_part tables p q _ f) none

  no_variables : (names : List Name) (a : Name) → IsIn a names → ¬ (map variable_of names ≡ [])
  no_variables [] a i e = i
  no_variables (b ∷ names) a i e = absurd (let k = e in cc k)

  pub some_variables : (q : Query) → IsFaultless tables q → (names : List Name) → AreAttributes tables q names → (vars : List (List ℕ)) → vars ≡ map variable_of names → ¬ (vars ≡ [])
  some_variables q f names are vars is e = one_attribute q f (λ a h. no_variables names a ((are.exact a).1 h) (sym is ∙ e))

module _ (mode : Mode) (base : List ℕ) (tables : List Table) (q : Query) where
  module _ (schema : IsSchema tables) where
    pub pattern_text_one : (text other : List ℕ) → IsPatternText mode base tables q text → IsPatternText mode base tables q other → text ≡ other
    pattern_text_one text other h k =
        let pattern = translates_unique mode base tables schema q h.pattern k.pattern h.translates k.translates in
        let names = lists_unique (HasAttribute tables q) h.names k.names h.attributes k.attributes in
        h.is ∙ (λ i. query_text (map variable_of (names i)) (pattern i) ++ codes "\n") ∙ sym k.is

    pub answers_one : (triples : List Statement) (text other : List ℕ) → AreAnswersIn mode base tables q triples text → AreAnswersIn mode base tables q triples other → text ≡ other
    answers_one triples text other h k =
        let pattern = translates_unique mode base tables schema q h.pattern k.pattern h.translates k.translates in
        let names = lists_unique (HasAttribute tables q) h.names k.names h.attributes k.attributes in
        solution_lines_one triples k.pattern (map variable_of k.names) text other
        (subst (λ (p : Pattern). AreSolutionLines triples p (map variable_of k.names) text) pattern
        (subst (λ (ns : List Name). AreSolutionLines triples h.pattern (map variable_of ns) text) names h.lines)) k.lines

    module _ (formed : IsWellFormed tables q) where
      pub pattern_text_some : ¬ ((text : List ℕ) → ¬ IsPatternText mode base tables q text)
      pattern_text_some none =
          translation_some mode base tables q schema formed (λ p is. attributes_some tables q (λ names are.
          none (query_text (map variable_of names) p ++ codes "\n") (record { pattern = p; translates = is; names = names; attributes = are; is = refl })))

      pub answers_some : (triples : List Statement) → ¬ ((text : List ℕ) → ¬ AreAnswersIn mode base tables q triples text)
      answers_some triples none =
          translation_some mode base tables q schema formed (λ p is. attributes_some tables q (λ names are.
          solution_lines_some triples p (map variable_of names) (λ text lines. none text (record { pattern = p; translates = is; names = names; attributes = are; lines = lines }))))

-- over the triples of the graph that the mode speaks of, of a database that keeps the keys that it speaks of, they are the lines of
-- the query's tuples
module _ (mode : Mode) (base : List ℕ) (laws : NamingLaws base) (D : Data) (db : IsDatabase D) (keys : KeepsKeysOf mode D) (q : Query) (formed : IsWellFormed D.tables q) (lawful : HasLawfulValues q) where
  pub as_rows : (triples : List Statement) (text : List ℕ) → AreTriplesOf (graph_of mode) base D triples → AreAnswersIn mode base D.tables q triples text → AreQueryLines D q text
  as_rows triples text are h =
      let kept : Keeps (IsTripleOf (graph_of mode) base D) h.pattern (IsTuple D q) = query_kept mode base D db laws keys q h.pattern formed.faultless lawful h.translates in
      (kept_lines D q formed triples (IsTripleOf (graph_of mode) base D) (λ t. (are.all t, are.only t)) h.pattern kept h.names h.attributes text).0 h.lines
