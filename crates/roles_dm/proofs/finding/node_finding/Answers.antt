use Rattle.std.proofs.Common.{subst}
use Rattle.roles_dm.specs.Roles.{IsRole}
use Rattle.roles_dm.proofs.FindingLemmas.{node_class, node_column, node_link, node_none}
use Rattle.roles_dm.proofs.finding.node_finding.Goals as goal

pub returns-in-Class : goal.returns-in-Class
returns-in-Class c base g w rs G x n t h p a b d = node_class base g w rs G x n t p a b d c.in-Class.field-0 (subst (IsRole base g G x.object) c.in-Class.is h)

pub returns-in-Column : goal.returns-in-Column
returns-in-Column c base g w rs G x n t h p a b d = node_column base g w rs G x n t p a b d c.in-Column.field-0 (subst (IsRole base g G x.object) c.in-Column.is h)

pub returns-in-Link : goal.returns-in-Link
returns-in-Link c base g w rs G x n t h p a b d = node_link base g w rs G x n t p a b d c.in-Link.field-0 (subst (IsRole base g G x.object) c.in-Link.is h)

pub returns-in-Nothing : goal.returns-in-Nothing
returns-in-Nothing c base g w rs G x n t h p a b d = node_none base g w rs G x n t p a b d (subst (IsRole base g G x.object) c.in-Nothing.is h)
