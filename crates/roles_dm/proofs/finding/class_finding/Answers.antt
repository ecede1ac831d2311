use Rattle.std.proofs.Common.{subst}
use Rattle.roles_dm.specs.Roles.{IsRole}
use Rattle.roles_dm.proofs.ColumnLemmas.{fails}
use Rattle.roles_dm.proofs.FindingLemmas.{class_bare, class_column, class_free, class_link, class_none}
use Rattle.roles_dm.proofs.finding.class_finding.Goals as goal

pub returns-then-has : goal.returns-then-has
returns-then-has c base g w rs G x t are h p o = class_free base g w rs G x c.args.numbers t p o c.args.columned.now c.in-Class.field-0 are (subst (IsRole base g G x.subject) c.in-Class.is h) (c.has.ensures.0 c.if-has.true)

pub returns-else-has : goal.returns-else-has
returns-else-has c base g w rs G x t are h p o = class_bare base g w rs G x c.args.numbers t p o c.args.columned.now are (fails c.has.result c.has.ensures c.if-has.false)

pub returns-in-Column : goal.returns-in-Column
returns-in-Column c base g w rs G x t are h p o = class_column base g w rs G x c.args.numbers t p o c.in-Column.field-0 (subst (IsRole base g G x.subject) c.in-Column.is h)

pub returns-in-Link : goal.returns-in-Link
returns-in-Link c base g w rs G x t are h p o = class_link base g w rs G x c.args.numbers t p o c.in-Link.field-0 (subst (IsRole base g G x.subject) c.in-Link.is h)

pub returns-in-Nothing : goal.returns-in-Nothing
returns-in-Nothing c base g w rs G x t are h p o = class_none base g w rs G x c.args.numbers t p o (subst (IsRole base g G x.subject) c.in-Nothing.is h)
