-- The pattern of a well-formed query is well-formed.
use Rattle.std.proofs.Common.{◌≡◌, ◌≢◌, ◌<◌, ℕ, List, [], ◌∷◌, refl, sym, subst, inl, ⊎_elim, arith, length}
use denote.Hole.Carrier.{hidden}
use Rattle.std.proofs.lemmas.Option.{slice_get_within}
use Rattle.members_dm.specs.Membership.{IsIn}
use Rattle.schema_dm.specs.Naming.{Name, column_names}
use Rattle.schema_dm.specs.Schemas.{IsSchema, table_at}
use Rattle.schema_dm.specs.declared.draft.Column.{Column}
use Rattle.schema_dm.specs.declared.table.Table.{Table as SchemaTable}
use Rattle.algebra_dm.specs.Attributes.{AreAttributes, HasAttribute}
use Rattle.algebra_dm.specs.Nodes.{IsFaultless}
use Rattle.algebra_dm.specs.declared.query.Mode.{Mode}
use Rattle.algebra_dm.specs.declared.query.Query.{Query, end_of-Query, more_of-Query}
use Rattle.algebra_dm.specs.declared.query.Query.TheVariants.{Table, Null, Eq', Ne', IsNull', NotNull', Project', Rename', Join', Union', Diff'}
use Rattle.members_dm.proofs.ElementsLemmas.{index_of_item, item_at_index}
use Rattle.pattern_dm.specs.Formed.{IsWellFormed}
use Rattle.pattern_dm.specs.declared.pattern.Condition.{Condition}
use Rattle.pattern_dm.specs.declared.pattern.Pattern.{Pattern}
use Rattle.pattern_dm.specs.declared.pattern.Pattern.TheVariants as patterns
use Rattle.pattern_dm.specs.declared.pattern.Pattern.TheBlock.{shape-the_row-Pattern-0, hidden-the_row-Pattern-0}
use Rattle.keeping_dm.proofs.TupleLemmas.{left_part, node, part, right_part}
use Rattle.keeping_dm.specs.Guards.{guarded, is_bound, is_other_value, is_unbound, is_value, joined, new_names, same_names}
use Rattle.table_patterns_dm.specs.TablePatterns.{AreAttributesOf, IsTablePattern, of_class, of_relation, type_triple, with_columns, with_optional}
use Rattle.translate_dm.specs.Translation.{IsDifference, Translates}
use Rattle.translate_dm.proofs.ClassLemmas.{of_schema}
use Rattle.translate_dm.proofs.FormedParts.{columns_formed, filter_formed, guarded_formed, join_formed, minus_formed, optional_formed, project_formed, rename_formed, union_formed}

item_some : (a : Name) (names : List Name) → IsIn a names → names ≢ []
item_some a names i e = subst (λ xs. IsIn a xs) e i

some_item : (names : List Name) → names ≢ [] → (a : Name) × IsIn a names
some_item [] n = absurd (n refl)
some_item (a ∷ names) n = (a, inl refl)

some_column : (columns : List Column) → 0 < length columns → (a : Name) × IsIn a (column_names columns)
some_column [] n = absurd (omega (arith, n))
some_column (c ∷ columns) n = (c.name, inl refl)

along : (p q : Pattern) → p ≡ q → IsWellFormed q → IsWellFormed p
along p q e h = subst IsWellFormed (sym e) h

empty_formed : IsWellFormed patterns.Empty
empty_formed = tt

two_joins : (p q r : Pattern) → IsWellFormed p → IsWellFormed q → IsWellFormed r → IsWellFormed (patterns.And (patterns.And p q) r)
unfolding shape-the_row-Pattern-0 hidden-the_row-Pattern-0 hidden
two_joins p q r a b c = ((a, b), c)

module _ (mode : Mode) (base : List ℕ) (tables : List SchemaTable) (schema : IsSchema tables) where
  -- ---- each query has an attribute

  some_attribute : (q : Query) → IsFaultless tables q → ¬ ((a : Name) → ¬ HasAttribute tables q a)
  some_attribute (Table name) f none = f.0.0 (λ h.
      let k = index_of_item h.0 tables h.1.0 in
      let column = some_column h.0.columns (schema.each h.0 (item_at_index h.0 tables k.0 k.2)).some_column in
      none column.0 (h.0, h.1, column.1))
  some_attribute (Null n) f none = none n refl
  some_attribute (Eq' s (more_of-Query q end_of-Query) n v) f none = some_attribute q (part tables q _ f) none
  some_attribute (Ne' s (more_of-Query q end_of-Query) n v) f none = some_attribute q (part tables q _ f) none
  some_attribute (IsNull' s (more_of-Query q end_of-Query) n) f none = some_attribute q (part tables q _ f) none
  some_attribute (NotNull' s (more_of-Query q end_of-Query) n) f none = some_attribute q (part tables q _ f) none
  some_attribute (Project' s (more_of-Query q end_of-Query) names) f none =
      let a = some_item names (node tables q _ f).1.0 in
      none a.0 a.1
  some_attribute (Rename' s (more_of-Query q end_of-Query) from to) f none = none to (inl refl)
  some_attribute (Join' s (more_of-Query q end_of-Query) s' (more_of-Query r end_of-Query)) f none = some_attribute q (left_part tables q r _ f) (λ a h. none a (inl h))
  some_attribute (Union' s (more_of-Query q end_of-Query) s' (more_of-Query r end_of-Query)) f none = some_attribute q (left_part tables q r _ f) none
  some_attribute (Diff' s (more_of-Query q end_of-Query) s' (more_of-Query r end_of-Query)) f none = some_attribute q (left_part tables q r _ f) none

  listed_some : (q : Query) → IsFaultless tables q → (names : List Name) → AreAttributes tables q names → names ≢ []
  listed_some q f names are e = some_attribute q f (λ a h. subst (λ xs. IsIn a xs) e ((are.exact a).1 h))

  -- ---- tables

  columns_some : (t : ℕ) → t < length tables → (names : List Name) → AreAttributesOf (table_at tables t) names → names ≢ []
  columns_some t l names h =
      let a = some_column (table_at tables t).columns (of_schema tables schema t l).some_column in
      item_some a.0 names ((h.exact a.0).1 a.1)

  table_formed : (t : ℕ) → t < length tables → (p : Pattern) → IsTablePattern mode base tables t p → IsWellFormed p
  table_formed t l p (of_class c certain others names h k m e) =
      let name = (table_at tables t).name in
      along p _ e (project_formed (λ a. IsIn a (column_names (table_at tables t).columns)) names m (columns_some t l names m)
      (with_optional base name (with_columns base name (type_triple base name) certain) others)
      (optional_formed base name _ others (columns_formed base name (type_triple base name) certain tt)))
  table_formed t l p (of_relation sides r names m e) =
      along p _ e (project_formed (λ a. IsIn a (column_names (table_at tables t).columns)) names m (columns_some t l names m) _ (two_joins _ _ _ tt tt tt))

  -- ---- operators

  filtered : (p q : Pattern) (f : Condition) → IsWellFormed q → p ≡ patterns.Filter q f → IsWellFormed p
  filtered p q f h e = along p (patterns.Filter q f) e (filter_formed q f h)

  difference : (q r : Query) → IsFaultless tables q → (left right p : Pattern) → IsWellFormed left → IsWellFormed right → IsDifference mode base tables q r left right p → IsWellFormed p
  difference q r f left right p h k is = ⊎_elim
      (λ m. along p (patterns.Minus left right) m.1 (minus_formed left right h k))
      (λ m. along p (guarded m.1.0 m.1.1 left right) m.1.4 (guarded_formed (HasAttribute tables q) m.1.0 m.1.2 (listed_some q f m.1.0 m.1.2) m.1.1 left right h k))
      is

  pub pattern_formed : (q : Query) (p : Pattern) → IsFaultless tables q → Translates mode base tables q p → IsWellFormed p
  pattern_formed (Table name) p f t = table_formed t.0 (slice_get_within tables t.0 t.1 t.2) p t.4
  pattern_formed (Null n) p f t = along p patterns.Empty t empty_formed
  pattern_formed (Eq' s (more_of-Query q end_of-Query) n v) p f t = filtered p t.0 (is_value n v) (pattern_formed q t.0 (part tables q _ f) t.1) t.2
  pattern_formed (Ne' s (more_of-Query q end_of-Query) n v) p f t = filtered p t.0 (is_other_value n v) (pattern_formed q t.0 (part tables q _ f) t.1) t.2
  pattern_formed (IsNull' s (more_of-Query q end_of-Query) n) p f t = filtered p t.0 (is_unbound n) (pattern_formed q t.0 (part tables q _ f) t.1) t.2
  pattern_formed (NotNull' s (more_of-Query q end_of-Query) n) p f t = filtered p t.0 (is_bound n) (pattern_formed q t.0 (part tables q _ f) t.1) t.2
  pattern_formed (Project' s (more_of-Query q end_of-Query) names) p f t =
      let a = some_item names (node tables q _ f).1.0 in
      along p (patterns.Select t.0 (same_names t.1)) t.4
      (project_formed (λ a. IsIn a names) t.1 t.3 (item_some a.0 t.1 ((t.3.exact a.0).1 a.1)) t.0 (pattern_formed q t.0 (part tables q _ f) t.2))
  pattern_formed (Rename' s (more_of-Query q end_of-Query) from to) p f t =
      along p (patterns.Select t.0 (new_names from to t.1)) t.4
      (rename_formed (HasAttribute tables (Rename' s (more_of-Query q end_of-Query) from to)) t.1 t.3 (item_some to t.1 ((t.3.exact to).1 (inl refl))) from to t.0 (pattern_formed q t.0 (part tables q _ f) t.2))
  pattern_formed (Join' s (more_of-Query q end_of-Query) s' (more_of-Query r end_of-Query)) p f t =
      along p (joined t.2 t.0 t.1) t.6 (join_formed t.2 t.0 t.1 (pattern_formed q t.0 (left_part tables q r _ f) t.3) (pattern_formed r t.1 (right_part tables q r _ f) t.4))
  pattern_formed (Union' s (more_of-Query q end_of-Query) s' (more_of-Query r end_of-Query)) p f t =
      along p (patterns.Union t.0 t.1) t.4 (union_formed t.0 t.1 (pattern_formed q t.0 (left_part tables q r _ f) t.2) (pattern_formed r t.1 (right_part tables q r _ f) t.3))
  pattern_formed (Diff' s (more_of-Query q end_of-Query) s' (more_of-Query r end_of-Query)) p f t =
      difference q r (left_part tables q r _ f) t.0 t.1 p (pattern_formed q t.0 (left_part tables q r _ f) t.2) (pattern_formed r t.1 (right_part tables q r _ f) t.3) t.4
