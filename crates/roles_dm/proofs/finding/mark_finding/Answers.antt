use Rattle.roles_dm.proofs.FindingLemmas.{mark, no_mark}
use Rattle.roles_dm.proofs.finding.mark_finding.Goals as goal

pub returns-then-numbers : goal.returns-then-numbers
returns-then-numbers c base g w rs G x t p = mark base g w rs G x c.args.numbers t p c.if-numbers.true

pub returns-else-numbers : goal.returns-else-numbers
returns-else-numbers c base g w rs G x t p = no_mark base g w rs G x c.args.numbers t p c.if-numbers.false
