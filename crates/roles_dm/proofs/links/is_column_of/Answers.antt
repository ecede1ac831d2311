use Rattle.std.proofs.Common.{◌≡◌, true, false, subst, refl}
use Rattle.roles_dm.specs.Links.{TellsColumnNumber}
use Rattle.roles_dm.proofs.links.is_column_of.Goals as goal

pub returns-in-None : goal.returns-in-None
returns-in-None c G is words datatypes =
    let none = subst (TellsColumnNumber c.args.base.now c.args.graph.now G c.args.table.now c.args.column.now) c.in-None.is (c.in_ok-column_number.ensures G is words datatypes) in
    ((λ e. absurd (let f : false ≡ true = e in cc)), (λ h. absurd (none h)))

pub returns-in-Some : goal.returns-in-Some
returns-in-Some c G is words datatypes =
    let told = subst (TellsColumnNumber c.args.base.now c.args.graph.now G c.args.table.now c.args.column.now) c.in-Some.is (c.in_ok-column_number.ensures G is words datatypes) in
    ((λ _. told.1), (λ _. refl))
