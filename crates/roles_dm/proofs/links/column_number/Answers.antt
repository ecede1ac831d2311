use Rattle.std.proofs.Common.{subst}
use Rattle.layouts_dm.specs.Layouts.{column_named}
use Rattle.roles_dm.specs.Naming.{column_term}
use Rattle.roles_dm.specs.Numbers.{IsNumberOf}
use Rattle.roles_dm.specs.Roles.{TellsColumn}
use Rattle.roles_dm.proofs.LinkLemmas.{absent_column, column_there, no_column_there, number_within}
use Rattle.roles_dm.proofs.NumberLemmas.{number_at}
use Rattle.roles_dm.proofs.links.column_number.Goals as goal

pub returns-then-number-eq0 : goal.returns-then-number-eq0
returns-then-number-eq0 c G is words datatypes =
    absent_column c.args.base.now c.naming_laws.ensures c.args.graph.now G is c.args.table.now c.args.column.now (subst (IsNumberOf c.args.graph.now (column_term c.args.base.now (column_named c.args.table.now c.args.column.now))) c.if-number-eq0.true c.in_ok-number.ensures)

pub column_of-requires-clause-high : goal.column_of-requires-clause-high
column_of-requires-clause-high c = number_within c.args.graph.now (column_term c.args.base.now (column_named c.args.table.now c.args.column.now)) c.in_ok-number.number c.in_ok-number.ensures

pub returns-in_default : goal.returns-in_default
returns-in_default c G is words datatypes =
    let x = column_term c.args.base.now (column_named c.args.table.now c.args.column.now) in
    no_column_there c.args.base.now c.naming_laws.ensures c.args.graph.now G is c.args.table.now c.args.column.now
    (subst (TellsColumn c.args.base.now c.args.graph.now G x) c.in_default.is (c.in_ok-role.ensures G x is words datatypes (number_at c.args.graph.now G is x c.in_ok-number.number c.in_ok-number.ensures c.if-number-eq0.false)))

pub returns : goal.returns
returns c G is words datatypes =
    let x = column_term c.args.base.now (column_named c.args.table.now c.args.column.now) in
    column_there c.args.base.now c.naming_laws.ensures c.args.graph.now G is c.args.table.now c.args.column.now c.in_ok-number.number c.in-Some.role c.in_ok-number.ensures
    (subst (TellsColumn c.args.base.now c.args.graph.now G x) c.in-Some.is (c.in_ok-role.ensures G x is words datatypes (number_at c.args.graph.now G is x c.in_ok-number.number c.in_ok-number.ensures c.if-number-eq0.false)))
