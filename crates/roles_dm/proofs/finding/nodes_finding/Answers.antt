use Rattle.std.proofs.Common.{subst}
use Rattle.roles_dm.specs.Roles.{IsRole}
use Rattle.roles_dm.proofs.FindingLemmas.{nodes_class, nodes_column, nodes_link, nodes_none}
use Rattle.roles_dm.proofs.finding.nodes_finding.Goals as goal

pub returns-in-Link : goal.returns-in-Link
returns-in-Link c base g w rs G x n t h p o = nodes_link base g w rs G x n t p o c.in-Link.field-0 (subst (IsRole base g G x.subject) c.in-Link.is h)

pub returns-in-Class : goal.returns-in-Class
returns-in-Class c base g w rs G x n t h p o = nodes_class base g w rs G x n t p o c.in-Class.field-0 (subst (IsRole base g G x.subject) c.in-Class.is h)

pub returns-in-Column : goal.returns-in-Column
returns-in-Column c base g w rs G x n t h p o = nodes_column base g w rs G x n t p o c.in-Column.field-0 (subst (IsRole base g G x.subject) c.in-Column.is h)

pub returns-in-Nothing : goal.returns-in-Nothing
returns-in-Nothing c base g w rs G x n t h p o = nodes_none base g w rs G x n t p o (subst (IsRole base g G x.subject) c.in-Nothing.is h)
