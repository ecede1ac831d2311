use Rattle.std.proofs.Common.{subst}
use Rattle.roles_dm.specs.Roles.{IsRole}
use Rattle.roles_dm.proofs.FindingLemmas.{column_domain, domain_class, domain_none, link_domain}
use Rattle.roles_dm.proofs.finding.domain_finding.Goals as goal

pub returns-in-Column : goal.returns-in-Column
returns-in-Column c base g w rs G x t h p = column_domain base g w rs G x c.args.numbers t p c.free_where_same.result c.in-Column.column (subst (IsRole base g G x.subject) c.in-Column.is h) c.free_where_same.ensures.same c.free_where_same.ensures.apart

pub returns-in-Link : goal.returns-in-Link
returns-in-Link c base g w rs G x t h p = link_domain base g w rs G x c.args.numbers t p c.free_where_same-in-Link.result c.in-Link.link (subst (IsRole base g G x.subject) c.in-Link.is h) c.free_where_same-in-Link.ensures.same c.free_where_same-in-Link.ensures.apart

pub returns-in-Class : goal.returns-in-Class
returns-in-Class c base g w rs G x t h p = domain_class base g w rs G x c.args.numbers t p c.in-Class.field-0 (subst (IsRole base g G x.subject) c.in-Class.is h)

pub returns-in-Nothing : goal.returns-in-Nothing
returns-in-Nothing c base g w rs G x t h p = domain_none base g w rs G x c.args.numbers t p (subst (IsRole base g G x.subject) c.in-Nothing.is h)
