-- What the operators make is the pattern of the query.
use Rattle.std.proofs.Common.{◌≡◌, ◌∙◌, ℕ, List, Some, map, sym, ap, subst}
use denote.Hole.Carrier.{hidden}
use Rattle.std.specs.Prelude.{◌<◌, length, slice_get}
use Rattle.std.specs.Option.{option_map}
use Rattle.std.proofs.lemmas.Option.{same_Some, slice_get-get_or, slice_get-map}
use Rattle.value_dm.specs.Lawful.{IsLawful}
use Rattle.value_dm.specs.declared.value.Value.{Value}
use Rattle.schema_dm.specs.Naming.{Name}
use Rattle.schema_dm.specs.Schemas.{no_table, table_at}
use Rattle.schema_dm.specs.declared.table.Table.{Table as SchemaTable}
use Rattle.algebra_dm.specs.declared.query.Mode.{Mode}
use Rattle.algebra_dm.specs.declared.query.Query.{Query}
use Rattle.algebra_dm.specs.declared.query.Query.TheVariants.{Table, Null, Eq, Ne, IsNull, NotNull, Project, Rename, Join, Union, Diff}
use Rattle.algebra_dm.specs.declared.query.Query.TheBlock.{shape-the_row-Query-0, hidden-the_row-Query-0}
use Rattle.pattern_dm.specs.declared.pattern.Pattern.{Pattern}
use Rattle.pattern_dm.specs.declared.pattern.Pattern.TheVariants as patterns
use Rattle.keeping_dm.specs.Guards.{is_bound, is_other_value, is_unbound, is_value}
use Rattle.table_patterns_dm.specs.TablePatterns.{IsTablePattern}
use Rattle.translate_dm.specs.Steps.{IsJoined, IsMade, IsProjected, IsRenamed}
use Rattle.translate_dm.specs.Translation.{IsDifference, IsNamedPattern}

module _ (mode : Mode) (base : List ℕ) (tables : List SchemaTable) where
  -- the table at the place of a name
  pub named_made : (names : List Name) (name : Name) (t : ℕ) (p : Pattern) → names ≡ map (λ (x : SchemaTable). x.name) tables → t < length tables → slice_get names t ≡ Some name
      → IsTablePattern mode base tables t p → IsNamedPattern mode base tables name p
  named_made names name t p e l at h =
      let here : slice_get tables t ≡ Some (table_at tables t) = slice_get-get_or tables t no_table l in
      let is : (table_at tables t).name ≡ name = same_Some (table_at tables t).name name
      (ap (option_map (λ (x : SchemaTable). x.name)) (sym here) ∙ sym (slice_get-map (λ (x : SchemaTable). x.name) tables t) ∙ ap (λ ns. slice_get ns t) (sym e) ∙ at) in
      (t, table_at tables t, here, is, h)

  moved : (read p : Query) (made : Pattern) → read ≡ p → IsMade mode base tables read made → IsMade mode base tables p made
  moved read p made e h = subst (λ z. IsMade mode base tables z made) e h

  module _ (q : Query) (made : Pattern) where
    pub table_made : (name : Name) → q ≡ Table name → IsNamedPattern mode base tables name made → IsMade mode base tables q made
    table_made name e h = moved (Table name) q made (sym e) (h, tt)

    pub null_made : (name : Name) → q ≡ Null name → made ≡ patterns.Empty → IsMade mode base tables q made
    null_made name e h = moved (Null name) q made (sym e) (h, tt)

    module _ (p read : Query) (part : Pattern) (same : read ≡ p) (h : IsMade mode base tables read part) where
      pub eq_made : (n : Name) (v : Value) → q ≡ Eq p n v → ((made ≡ patterns.Filter part (is_value n v)) × IsLawful v) → IsMade mode base tables q made
      unfolding shape-the_row-Query-0 hidden-the_row-Query-0 hidden
      eq_made n v e k = let here = moved read p part same h in moved (Eq p n v) q made (sym e) ((part, here.0, k.0), (here.1, k.1))

      pub ne_made : (n : Name) (v : Value) → q ≡ Ne p n v → ((made ≡ patterns.Filter part (is_other_value n v)) × IsLawful v) → IsMade mode base tables q made
      unfolding shape-the_row-Query-0 hidden-the_row-Query-0 hidden
      ne_made n v e k = let here = moved read p part same h in moved (Ne p n v) q made (sym e) ((part, here.0, k.0), (here.1, k.1))

      pub is_null_made : (n : Name) → q ≡ IsNull p n → made ≡ patterns.Filter part (is_unbound n) → IsMade mode base tables q made
      unfolding shape-the_row-Query-0 hidden-the_row-Query-0 hidden
      is_null_made n e k = let here = moved read p part same h in moved (IsNull p n) q made (sym e) ((part, here.0, k), here.1)

      pub not_null_made : (n : Name) → q ≡ NotNull p n → made ≡ patterns.Filter part (is_bound n) → IsMade mode base tables q made
      unfolding shape-the_row-Query-0 hidden-the_row-Query-0 hidden
      not_null_made n e k = let here = moved read p part same h in moved (NotNull p n) q made (sym e) ((part, here.0, k), here.1)

      pub project_made : (names : List Name) → q ≡ Project p names → IsProjected names part made → IsMade mode base tables q made
      unfolding shape-the_row-Query-0 hidden-the_row-Query-0 hidden
      project_made names e k = let here = moved read p part same h in moved (Project p names) q made (sym e) ((part, k.0, here.0, k.1, k.2), here.1)

      pub rename_made : (from to : Name) → q ≡ Rename p from to → IsRenamed tables q from to part made → IsMade mode base tables q made
      unfolding shape-the_row-Query-0 hidden-the_row-Query-0 hidden
      rename_made from to e j =
          let here = moved read p part same h in
          let k : IsRenamed tables (Rename p from to) from to part made = subst (λ z. IsRenamed tables z from to part made) e j in
          moved (Rename p from to) q made (sym e) ((part, k.0, here.0, k.1, k.2), here.1)

    module _ (p r read other : Query) (left right : Pattern) (same : read ≡ p) (same_other : other ≡ r) (h : IsMade mode base tables read left) (also : IsMade mode base tables other right) where
      pub join_made : q ≡ Join p r → IsJoined tables read other left right made → IsMade mode base tables q made
      unfolding shape-the_row-Query-0 hidden-the_row-Query-0 hidden
      join_made e j =
          let here = moved read p left same h in
          let there = moved other r right same_other also in
          let k : IsJoined tables p r left right made = subst (λ z. IsJoined tables p z left right made) same_other (subst (λ z. IsJoined tables z other left right made) same j) in
          moved (Join p r) q made (sym e) ((left, right, k.0, here.0, there.0, k.1, k.2), (here.1, there.1))

      pub union_made : q ≡ Union p r → made ≡ patterns.Union left right → IsMade mode base tables q made
      unfolding shape-the_row-Query-0 hidden-the_row-Query-0 hidden
      union_made e k =
          let here = moved read p left same h in
          let there = moved other r right same_other also in
          moved (Union p r) q made (sym e) ((left, right, here.0, there.0, k), (here.1, there.1))

      pub diff_made : q ≡ Diff p r → IsDifference mode base tables read other left right made → IsMade mode base tables q made
      unfolding shape-the_row-Query-0 hidden-the_row-Query-0 hidden
      diff_made e j =
          let here = moved read p left same h in
          let there = moved other r right same_other also in
          let k : IsDifference mode base tables p r left right made = subst (λ z. IsDifference mode base tables p z left right made) same_other (subst (λ z. IsDifference mode base tables z other left right made) same j) in
          moved (Diff p r) q made (sym e) ((left, right, here.0, there.0, k), (here.1, there.1))
