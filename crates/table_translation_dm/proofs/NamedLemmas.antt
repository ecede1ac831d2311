-- No name of a table's columns is empty.
use Rattle.std.proofs.Common.{◌≡◌, ◌≢◌, ◌∙◌, ◌<◌, ℕ, List, [], get_or, length, subst, sym}
use Rattle.members_dm.specs.Membership.{IsIn}
use Rattle.members_dm.proofs.ElementsLemmas.{item_within}
use Rattle.schema_dm.specs.Naming.{Name}
use Rattle.schema_dm.specs.Schemas.{IsSchema, table_at}
use Rattle.schema_dm.specs.declared.table.Table.{Table}
use Rattle.algebra_dm.specs.declared.query.Mode.{Mode}
use Rattle.query_rows_dm.proofs.EvaluationLemmas.{names_good}
use Rattle.table_patterns_dm.specs.TablePatterns.{AreAttributesOf}
use Rattle.table_translation_dm.specs.Parts.{AreParted}
use Rattle.table_translation_dm.specs.declared.columns.Parted.{Parted}

-- a name of a list without the empty one
pub not_empty : (names : List Name) (k : ℕ) (x : Name) → k < length names → x ≡ get_or names k x → ¬ IsIn [] names → x ≢ []
not_empty names k x l e n s = n (subst (λ (y : Name). IsIn y names) (sym e ∙ s) (item_within names k x l))

module _ (tables : List Table) (schema : IsSchema tables) (t : ℕ) (l : t < length tables) where
  pub columns_named : (names : List Name) → AreAttributesOf (table_at tables t) names → ¬ IsIn [] names
  columns_named names h i = names_good tables schema t l ((h.exact []).0 i)

  pub certain_named : (mode : Mode) (parts : Parted) → AreParted mode (table_at tables t) parts → ¬ IsIn [] parts.certain
  certain_named mode parts h i = names_good tables schema t l ((h.certain.exact []).0 i).0

  pub others_named : (mode : Mode) (parts : Parted) → AreParted mode (table_at tables t) parts → ¬ IsIn [] parts.others
  others_named mode parts h i = names_good tables schema t l ((h.others.exact []).0 i).0
