-- Some table of a schema is a class in each graph, and one of them is the first.
use Rattle.std.proofs.Common.{◌≡◌, ◌∙◌, ◌<◌, ℕ, List, Some, refl, sym, ap, arith, length}
use Rattle.std.specs.Prelude.{slice_get, Any}
use Rattle.std.proofs.lemmas.Option.{slice_get-get_or}
use Rattle.members_dm.specs.Membership.{IsIn}
use Rattle.members_dm.proofs.AnyLemmas.{any_from_item}
use Rattle.members_dm.proofs.ElementsLemmas.{item_at_index}
use Rattle.schema_dm.specs.Relations.{IsBinaryRelation, IsTarget}
use Rattle.schema_dm.specs.Schemas.{IsSchema, IsTable, no_table, table_at}
use Rattle.schema_dm.specs.declared.table.Binary.{Binary}
use Rattle.schema_dm.specs.declared.table.ForeignKey.{ForeignKey}
use Rattle.schema_dm.specs.declared.table.Table.{Table}
use Rattle.algebra_dm.specs.declared.query.Mode.{Mode}
use Rattle.algebra_dm.specs.declared.query.Mode.TheVariants.{Map, MapKeys}
use Rattle.translate_dm.specs.Translation.{AreAllRelations, IsFirstClass, IsMarkerClass}
use Rattle.names_dm.specs.Names.{table_iri}

module _ (tables : List Table) (schema : IsSchema tables) where
  pub at_place : (place : ℕ) → place < length tables → slice_get tables place ≡ Some (table_at tables place)
  at_place place l = slice_get-get_or tables place no_table l

  pub in_tables : (place : ℕ) → place < length tables → IsIn (table_at tables place) tables
  in_tables place l = item_at_index (table_at tables place) tables place (at_place place l)

  pub of_schema : (place : ℕ) → place < length tables → IsTable tables (table_at tables place)
  of_schema place l = schema.each (table_at tables place) (in_tables place l)

  -- a relation leads to another table, which is then a target
  leads_on : (place : ℕ) → place < length tables → (sides : Binary) → IsBinaryRelation tables place sides → ((s : ℕ) → s < length tables → ¬ ((other : Binary) → ¬ IsBinaryRelation tables s other)) → ⊥
  leads_on place l sides is all =
      let key : ForeignKey = is.left.0 in
      let in_keys : IsIn key (table_at tables place).foreign = item_at_index key (table_at tables place).foreign sides.left is.left.1 in
      let target : key.target < length tables = ((of_schema place l).foreign key in_keys).target in
      let is_target : IsTarget tables key.target =
      any_from_item (λ (other : Table). Any (λ (k : ForeignKey). k.target ≡ key.target) other.foreign) (table_at tables place) tables (in_tables place l)
      (any_from_item (λ (k : ForeignKey). k.target ≡ key.target) key (table_at tables place).foreign in_keys refl) in
      all key.target target (λ other relation. relation.no_target is_target)

  pub not_all_relations : (mode : Mode) → ¬ AreAllRelations mode tables
  not_all_relations MapKeys all = all 0 schema.some (λ sides never. never)
  not_all_relations Map all = all 0 schema.some (λ sides is. leads_on 0 schema.some sides is all)

pub first_class_unique : (mode : Mode) (tables : List Table) (s t : ℕ) → IsFirstClass mode tables s → IsFirstClass mode tables t → s ≡ t
first_class_unique mode tables s t h k = go (s < t) (t < s) (λ l. k.first s l h.class) (λ l. h.first t l k.class)
  where
    go : (A B : Type 0) → (s < t → ⊥) → (t < s → ⊥) → s ≡ t
    go A B m n = omega (arith, m, n)

pub class_unique : (mode : Mode) (base : List ℕ) (tables : List Table) (x y : List ℕ) → IsMarkerClass mode base tables x → IsMarkerClass mode base tables y → x ≡ y
class_unique mode base tables x y h k = h.2 ∙ ap (λ t. table_iri base (table_at tables t).name) (first_class_unique mode tables h.0 k.0 h.1 k.1) ∙ sym k.2
