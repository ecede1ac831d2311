use Rattle.std.proofs.Common.{◌∙◌, List, ap, subst}
use Rattle.members_dm.specs.Membership.{IsIn}
use Rattle.schema_dm.specs.Naming.{Name, column_names}
use Rattle.algebra_dm.specs.Attributes.{Lists}
use Rattle.table_translation_dm.proofs.tables.attributes_of.Goals as goal

pub returns : goal.returns
returns c = subst (λ (xs : List Name). Lists (λ a. IsIn a xs) c.rising.result) (c.in_ok-names.ensures ∙ ap column_names c.as_slice.ensures) c.rising.ensures
