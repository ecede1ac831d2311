use Rattle.std.proofs.Common.{subst}
use Rattle.roles_dm.specs.Links.{TellsLink}
use Rattle.roles_dm.proofs.roles.link_role.Goals as goal

pub returns-in-Some : goal.returns-in-Some
returns-in-Some c G x is words datatypes relations at no_class no_column = subst (TellsLink c.args.base.now c.args.graph.now G x) c.in-Some.is (c.in_ok-link.ensures G x is words datatypes relations at)

pub returns-in-None : goal.returns-in-None
returns-in-None c G x is words datatypes relations at no_class no_column = (no_class, no_column, subst (TellsLink c.args.base.now c.args.graph.now G x) c.in-None.is (c.in_ok-link.ensures G x is words datatypes relations at))
