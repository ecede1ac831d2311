-- A query has one pattern.
use Rattle.std.proofs.Common.{◌≡◌, ◌∙◌, ◌<◌, ℕ, List, Some, sym, ap, subst, inl, inr, arith, map, length}
use Rattle.std.specs.Prelude.{slice_get}
use Rattle.std.specs.Option.{option_map}
use Rattle.std.proofs.lemmas.Option.{slice_get-map, slice_get_within}
use Rattle.members_dm.specs.Membership.{IsIn}
use Rattle.members_dm.proofs.ElementsLemmas.{one_index}
use Rattle.members_dm.proofs.MembershipLemmas.{rising_unique}
use Rattle.schema_dm.specs.Naming.{Name, column_names, column_place}
use Rattle.schema_dm.specs.Schemas.{IsSchema, table_at}
use Rattle.schema_dm.specs.declared.draft.Column.{Column}
use Rattle.schema_dm.specs.declared.table.Binary.{Binary}
use Rattle.schema_dm.specs.declared.table.Table.{Table as SchemaTable}
use Rattle.schema_dm.proofs.OneRelation.{sides_unique}
use Rattle.algebra_dm.specs.Attributes.{HasAttribute}
use Rattle.algebra_dm.specs.declared.query.Mode.{Mode}
use Rattle.algebra_dm.specs.declared.query.Mode.TheVariants.{Map, MapKeys}
use Rattle.algebra_dm.specs.declared.query.Query.{Query, end_of-Query, more_of-Query}
use Rattle.algebra_dm.specs.declared.query.Query.TheVariants.{Table, Null, Eq', Ne', IsNull', NotNull', Project', Rename', Join', Union', Diff'}
use Rattle.algebra_dm.proofs.RisingLemmas.{lists_unique}
use Rattle.graphs_dm.specs.Relations.{CountsAsRelation}
use Rattle.pattern_dm.specs.declared.pattern.Condition.{Condition}
use Rattle.pattern_dm.specs.declared.pattern.Pattern.{Pattern}
use Rattle.pattern_dm.specs.declared.pattern.Pattern.TheVariants as patterns
use Rattle.keeping_dm.specs.Guards.{guarded, is_bound, is_other_value, is_unbound, is_value, joined, new_names, same_names}
use Rattle.table_patterns_dm.specs.TablePatterns.{AreDeclared, IsTablePattern, class_pattern, graph_of, of_class, of_relation, relation_pattern}
use Rattle.translate_dm.specs.Translation.{IsDifference, IsNamedPattern, Translates}
use Rattle.translate_dm.proofs.ClassLemmas.{class_unique, of_schema}

declared_unique : (columns : List Column) (P : Name → Type 0) (xs ys : List Name) → AreDeclared columns P xs → AreDeclared columns P ys → xs ≡ ys
declared_unique columns P xs ys h k = rising_unique (λ a b. column_place columns a < column_place columns b) (λ x y l m. omega (arith, l, m)) xs ys h.declared k.declared
    (λ a. ((λ i. (k.exact a).1 ((h.exact a).0 i)), (λ i. (h.exact a).1 ((k.exact a).0 i))))

module _ (mode : Mode) (base : List ℕ) (tables : List SchemaTable) (schema : IsSchema tables) where
  sides_one : (mode : Mode) (t : ℕ) → t < length tables → (sides other : Binary) → CountsAsRelation (graph_of mode) tables t sides → CountsAsRelation (graph_of mode) tables t other → sides ≡ other
  sides_one Map t l sides other h k = sides_unique tables t sides other (of_schema tables schema t l).apart h k
  sides_one MapKeys t l sides other h k = absurd h

  table_unique : (t : ℕ) → t < length tables → (p q : Pattern) → IsTablePattern mode base tables t p → IsTablePattern mode base tables t q → p ≡ q
  table_unique t l p q (of_class c certain others names h1 h2 h3 e) (of_class d certains more names' k1 k2 k3 f) =
      let one = declared_unique (table_at tables t).columns _ certain certains h1 k1 in
      let two = declared_unique (table_at tables t).columns _ others more h2 k2 in
      let three = lists_unique (λ a. IsIn a (column_names (table_at tables t).columns)) names names' h3 k3 in
      e ∙ (λ i. class_pattern base (table_at tables t).name (one i) (two i) (three i)) ∙ sym f
  table_unique t l p q (of_class c certain others names h1 h2 h3 e) (of_relation sides r names' k f) = absurd (c sides r)
  table_unique t l p q (of_relation sides r names h e) (of_class d certains more names' k1 k2 k3 f) = absurd (d sides r)
  table_unique t l p q (of_relation sides r names h e) (of_relation other s names' k f) =
      let one = sides_one mode t l sides other r s in
      let three = lists_unique (λ a. IsIn a (column_names (table_at tables t).columns)) names names' h k in
      e ∙ (λ i. relation_pattern base tables t (one i) (three i)) ∙ sym f

  place_one : (name : Name) (s t : ℕ) (x y : SchemaTable) → slice_get tables s ≡ Some x → x.name ≡ name → slice_get tables t ≡ Some y → y.name ≡ name → s ≡ t
  place_one name s t x y at is also is_too =
      one_index (map (λ (z : SchemaTable). z.name) tables) name s t schema.names (named s x at is) (named t y also is_too)
    where
      named : (k : ℕ) (z : SchemaTable) → slice_get tables k ≡ Some z → z.name ≡ name → slice_get (map (λ (z : SchemaTable). z.name) tables) k ≡ Some name
      named k z e f = slice_get-map (λ (z : SchemaTable). z.name) tables k ∙ ap (option_map (λ (z : SchemaTable). z.name)) e ∙ ap (λ (x : Name). Some x) f

  named_unique : (name : Name) (p q : Pattern) → IsNamedPattern mode base tables name p → IsNamedPattern mode base tables name q → p ≡ q
  named_unique name p q h k =
      table_unique k.0 (slice_get_within tables k.0 k.1 k.2) p q (subst (λ t. IsTablePattern mode base tables t p) (place_one name h.0 k.0 h.1 k.1 h.2 h.3 k.2 k.3) h.4) k.4

  difference_unique : (q r : Query) (left left' right right' p p' : Pattern) → left ≡ left' → right ≡ right' → IsDifference mode base tables q r left right p → IsDifference mode base tables q r left' right' p' → p ≡ p'
  difference_unique q r left left' right right' p p' e f (inl h) (inl k) = h.1 ∙ (λ i. patterns.Minus (e i) (f i)) ∙ sym k.1
  difference_unique q r left left' right right' p p' e f (inl h) (inr k) = absurd (k.0 h.0)
  difference_unique q r left left' right right' p p' e f (inr h) (inl k) = absurd (h.0 k.0)
  difference_unique q r left left' right right' p p' e f (inr h) (inr k) =
      let names = lists_unique (HasAttribute tables q) h.1.0 k.1.0 h.1.2 k.1.2 in
      let class = class_unique mode base tables h.1.1 k.1.1 h.1.3 k.1.3 in
      h.1.4 ∙ (λ i. guarded (names i) (class i) (e i) (f i)) ∙ sym k.1.4

  filter_unique : (p q left right : Pattern) (f : Condition) → left ≡ right → p ≡ patterns.Filter left f → q ≡ patterns.Filter right f → p ≡ q
  filter_unique p q left right f e h k = h ∙ ap (λ x. patterns.Filter x f) e ∙ sym k

  pub translates_unique : (q : Query) (p p' : Pattern) → Translates mode base tables q p → Translates mode base tables q p' → p ≡ p'
  translates_unique (Table name) p p' h k = named_unique name p p' h k
  translates_unique (Null n) p p' h k = h ∙ sym k
  translates_unique (Eq' s (more_of-Query q end_of-Query) n v) p p' h k = filter_unique p p' h.0 k.0 (is_value n v) (translates_unique q h.0 k.0 h.1 k.1) h.2 k.2
  translates_unique (Ne' s (more_of-Query q end_of-Query) n v) p p' h k = filter_unique p p' h.0 k.0 (is_other_value n v) (translates_unique q h.0 k.0 h.1 k.1) h.2 k.2
  translates_unique (IsNull' s (more_of-Query q end_of-Query) n) p p' h k = filter_unique p p' h.0 k.0 (is_unbound n) (translates_unique q h.0 k.0 h.1 k.1) h.2 k.2
  translates_unique (NotNull' s (more_of-Query q end_of-Query) n) p p' h k = filter_unique p p' h.0 k.0 (is_bound n) (translates_unique q h.0 k.0 h.1 k.1) h.2 k.2
  translates_unique (Project' s (more_of-Query q end_of-Query) names) p p' h k =
      let part = translates_unique q h.0 k.0 h.2 k.2 in
      let sorted = lists_unique (λ a. IsIn a names) h.1 k.1 h.3 k.3 in
      h.4 ∙ (λ i. patterns.Select (part i) (same_names (sorted i))) ∙ sym k.4
  translates_unique (Rename' s (more_of-Query q end_of-Query) from to) p p' h k =
      let part = translates_unique q h.0 k.0 h.2 k.2 in
      let names = lists_unique (HasAttribute tables (Rename' s (more_of-Query q end_of-Query) from to)) h.1 k.1 h.3 k.3 in
      h.4 ∙ (λ i. patterns.Select (part i) (new_names from to (names i))) ∙ sym k.4
  translates_unique (Join' s (more_of-Query q end_of-Query) s' (more_of-Query r end_of-Query)) p p' h k =
      let left = translates_unique q h.0 k.0 h.3 k.3 in
      let right = translates_unique r h.1 k.1 h.4 k.4 in
      let common = lists_unique (λ a. HasAttribute tables q a × HasAttribute tables r a) h.2 k.2 h.5 k.5 in
      h.6 ∙ (λ i. joined (common i) (left i) (right i)) ∙ sym k.6
  translates_unique (Union' s (more_of-Query q end_of-Query) s' (more_of-Query r end_of-Query)) p p' h k =
      let left = translates_unique q h.0 k.0 h.2 k.2 in
      let right = translates_unique r h.1 k.1 h.3 k.3 in
      h.4 ∙ (λ i. patterns.Union (left i) (right i)) ∙ sym k.4
  translates_unique (Diff' s (more_of-Query q end_of-Query) s' (more_of-Query r end_of-Query)) p p' h k =
      difference_unique q r h.0 k.0 h.1 k.1 p p' (translates_unique q h.0 k.0 h.2 k.2) (translates_unique r h.1 k.1 h.3 k.3) h.4 k.4
