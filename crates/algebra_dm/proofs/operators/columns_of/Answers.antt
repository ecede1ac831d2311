use Rattle.std.proofs.Common.{◌≡◌, ◌≢◌, ◌∙◌, ◌⊎◌, List, [], sym, ap, subst, inl, inr}
use Rattle.std.specs.Prelude.{Any}
use Rattle.std.proofs.lemmas.Bool.{false≢true}
use Rattle.members_dm.specs.Elements.{Repeats}
use Rattle.members_dm.specs.Membership.{IsIn}
use Rattle.schema_dm.specs.Naming.{Name, column_names}
use Rattle.algebra_dm.specs.Certain.{IsCertainColumn}
use Rattle.algebra_dm.proofs.RisingLemmas.{lists_along, lists_items}
use Rattle.algebra_dm.proofs.ToldLemmas.{no_causes, own_list, told_narrow}
use Rattle.algebra_dm.proofs.operators.columns_of.Goals as goal

pub returns : goal.returns
returns c =
    let table = c.args.table.now in
    told_narrow ⊥ ⊥ ⊥ ⊥ (λ a. IsIn a (column_names table.columns)) (IsCertainColumn c.args.mode table) _ c.narrow.result c.narrow.ensures no_causes
    (rw (c.in_ok-column_names.ensures, c.as_slice.ensures) at c.rising-attributes.ensures)
    (lists_items (IsCertainColumn c.args.mode table) _ _ c.in_ok-certain_names.ensures c.rising-certain.ensures)
