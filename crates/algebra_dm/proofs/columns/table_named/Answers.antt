use Rattle.std.proofs.Common.{◌≡◌, Some, subst}
use Rattle.std.specs.Prelude.{slice_get}
use Rattle.members_dm.specs.InOrder.{IsFirstPlace}
use Rattle.algebra_dm.specs.Attributes.{IsNamed}
use Rattle.algebra_dm.proofs.ColumnLemmas.{no_table_named, none_along, some_along, table_found, table_there}
use Rattle.algebra_dm.proofs.columns.table_named.Goals as goal

pub returns-in-None-clause-none : goal.returns-in-None-clause-none
returns-in-None-clause-none c = no_table_named c.args.tables.now c.args.names.now c.args.name.now c.requires c.in-None.ensures

pub returns-in-Some-clause-none : goal.returns-in-Some-clause-none
returns-in-Some-clause-none c =
    none_along c.table_at.result
    (λ past. absurd (table_there c.args.tables.now c.args.names.now c.args.name.now c.in-Some.place c.requires (subst (IsFirstPlace c.args.names.now c.args.name.now) c.in-Some.is c.place.ensures) past))
    c.table_at.ensures.none

pub returns-in-Some-clause-found : goal.returns-in-Some-clause-found
returns-in-Some-clause-found c =
    some_along (λ table. slice_get c.args.tables.now c.in-Some.place ≡ Some table.now) (λ table. IsNamed c.args.tables.now c.args.name.now table.now) c.table_at.result
    (λ table e. table_found c.args.tables.now c.args.names.now c.args.name.now c.in-Some.place table.now c.requires (subst (IsFirstPlace c.args.names.now c.args.name.now) c.in-Some.is c.place.ensures) e)
    c.table_at.ensures.found
