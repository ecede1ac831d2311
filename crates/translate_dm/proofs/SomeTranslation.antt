-- Each well-formed query has a pattern.
use Rattle.std.proofs.Common.{◌<◌, ℕ, zero, suc, List, refl, inl, inr, arith, length}
use Rattle.members_dm.specs.Membership.{IsIn}
use Rattle.members_dm.proofs.ElementsLemmas.{index_of_item}
use Rattle.names_dm.specs.Names.{table_iri}
use Rattle.schema_dm.specs.Naming.{Name, column_names}
use Rattle.schema_dm.specs.Schemas.{IsSchema, table_at}
use Rattle.schema_dm.specs.declared.table.Table.{Table as SchemaTable}
use Rattle.algebra_dm.specs.Attributes.{HasAttribute, HasTable}
use Rattle.algebra_dm.specs.Certain.{IsCertainColumn}
use Rattle.algebra_dm.specs.Nodes.{IsFaultless, IsWellFormed}
use Rattle.algebra_dm.specs.declared.query.Mode.{Mode}
use Rattle.algebra_dm.specs.declared.query.Query.{Query, end_of-Query, more_of-Query}
use Rattle.algebra_dm.specs.declared.query.Query.TheVariants.{Table, Null, Eq', Ne', IsNull', NotNull', Project', Rename', Join', Union', Diff'}
use Rattle.graphs_dm.specs.Relations.{CountsAsClass}
use Rattle.pattern_dm.specs.declared.pattern.Pattern.{Pattern}
use Rattle.pattern_dm.specs.declared.pattern.Pattern.TheVariants as patterns
use Rattle.keeping_dm.specs.Guards.{guarded, is_bound, is_other_value, is_unbound, is_value, joined, new_names, same_names}
use Rattle.keeping_dm.proofs.TupleLemmas.{left_part, part, right_part}
use Rattle.table_patterns_dm.specs.TablePatterns.{IsTablePattern, class_pattern, graph_of, of_class, of_relation, relation_pattern}
use Rattle.translate_dm.specs.Translation.{AreAllCertain, IsDifference, IsFirstClass, IsNamedPattern, Translates}
use Rattle.translate_dm.proofs.ClassLemmas.{not_all_relations, of_schema}
use Rattle.translate_dm.proofs.SomeNames.{attributes_some, bound, declared_some, lists_some}

module _ (mode : Mode) (base : List ℕ) (tables : List SchemaTable) (schema : IsSchema tables) where
  none_before : ((t : ℕ) → ¬ IsFirstClass mode tables t) → (n t : ℕ) → t < n → t < length tables → ¬ CountsAsClass (graph_of mode) tables t
  none_before none zero t below within class = absurd (omega arith)
  none_before none (suc n) t below within class =
      none t (record { within = within; class = class; first = λ s earlier. none_before none n s (omega arith) (omega arith) })

  class_some : ¬ ((t : ℕ) → ¬ IsFirstClass mode tables t)
  class_some none = not_all_relations tables schema mode (λ t within. none_before none (length tables) t within within)

  table_some : (t : ℕ) → t < length tables → ¬ ((p : Pattern) → ¬ IsTablePattern mode base tables t p)
  table_some t within none =
      let table : SchemaTable = table_at tables t in
      let once = (of_schema tables schema t within).distinct in
      lists_some (λ a. IsIn a (column_names table.columns)) (column_names table.columns) (λ a h. h) (λ names are.
      let class : CountsAsClass (graph_of mode) tables t = λ sides is. none (relation_pattern base tables t sides names) (of_relation sides is names are refl) in
      declared_some table.columns once (IsCertainColumn mode table) (λ certain values.
      declared_some table.columns once (λ a. ¬ IsCertainColumn mode table a) (λ others rest.
      none (class_pattern base table.name certain others names) (of_class class certain others names values rest are refl))))

  named_some : (name : Name) → HasTable tables name → ¬ ((p : Pattern) → ¬ IsNamedPattern mode base tables name p)
  named_some name h none = let k = index_of_item h.0 tables h.1.0 in table_some k.0 k.1 (λ p is. none p (k.0, h.0, k.2, h.1.1, is))

  difference_some : (q r : Query) (left right : Pattern) → ¬ ((p : Pattern) → ¬ IsDifference mode base tables q r left right p)
  difference_some q r left right none =
      let nullable : ¬ AreAllCertain mode tables q r = λ certain. none (patterns.Minus left right) (inl (certain, refl)) in
      attributes_some tables q (λ names are.
      class_some (λ t first.
      let class : List ℕ = table_iri base (table_at tables t).name in
      none (guarded names class left right) (inr (nullable, (names, class, are, (t, first, refl), refl)))))

  faultless_some : (q : Query) → IsFaultless tables q → ¬ ((p : Pattern) → ¬ Translates mode base tables q p)
  faultless_some (Table name) f none = f.0.0 (λ h. named_some name h none)
  faultless_some (Null n) f none = none patterns.Empty refl
  faultless_some (Eq' s (more_of-Query q end_of-Query) n v) f none = faultless_some q (part tables q _ f) (λ p t. none (patterns.Filter p (is_value n v)) (p, t, refl))
  faultless_some (Ne' s (more_of-Query q end_of-Query) n v) f none = faultless_some q (part tables q _ f) (λ p t. none (patterns.Filter p (is_other_value n v)) (p, t, refl))
  faultless_some (IsNull' s (more_of-Query q end_of-Query) n) f none = faultless_some q (part tables q _ f) (λ p t. none (patterns.Filter p (is_unbound n)) (p, t, refl))
  faultless_some (NotNull' s (more_of-Query q end_of-Query) n) f none = faultless_some q (part tables q _ f) (λ p t. none (patterns.Filter p (is_bound n)) (p, t, refl))
  faultless_some (Project' s (more_of-Query q end_of-Query) names) f none =
      faultless_some q (part tables q _ f) (λ p t.
      lists_some (λ a. IsIn a names) names (λ a h. h) (λ sorted are. none (patterns.Select p (same_names sorted)) (p, sorted, t, are, refl)))
  faultless_some (Rename' s (more_of-Query q end_of-Query) from to) f none =
      faultless_some q (part tables q _ f) (λ p t.
      attributes_some tables (Rename' s (more_of-Query q end_of-Query) from to) (λ names are. none (patterns.Select p (new_names from to names)) (p, names, t, are, refl)))
  faultless_some (Join' s (more_of-Query q end_of-Query) s' (more_of-Query r end_of-Query)) f none =
      let b = bound tables q in
      faultless_some q (left_part tables q r _ f) (λ left t.
      faultless_some r (right_part tables q r _ f) (λ right u.
      lists_some (λ a. HasAttribute tables q a × HasAttribute tables r a) b.names (λ a h. b.all a h.0) (λ common are.
      none (joined common left right) (left, right, common, t, u, are, refl))))
  faultless_some (Union' s (more_of-Query q end_of-Query) s' (more_of-Query r end_of-Query)) f none =
      faultless_some q (left_part tables q r _ f) (λ left t.
      faultless_some r (right_part tables q r _ f) (λ right u. none (patterns.Union left right) (left, right, t, u, refl)))
  faultless_some (Diff' s (more_of-Query q end_of-Query) s' (more_of-Query r end_of-Query)) f none =
      faultless_some q (left_part tables q r _ f) (λ left t.
      faultless_some r (right_part tables q r _ f) (λ right u.
      difference_some q r left right (λ p is. none p (left, right, t, u, is))))

pub translation_some : (mode : Mode) (base : List ℕ) (tables : List SchemaTable) (q : Query) → IsSchema tables → IsWellFormed tables q → ¬ ((p : Pattern) → ¬ Translates mode base tables q p)
translation_some mode base tables q schema formed = faultless_some mode base tables schema q formed.faultless
