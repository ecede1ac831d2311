use Rattle.std.proofs.Common.{subst, sym}
use Rattle.roles_dm.specs.Canonical.{IsCanonicalOf}
use Rattle.roles_dm.proofs.ColumnLemmas.{fails}
use Rattle.roles_dm.proofs.FindingLemmas.{no_value, no_value_node, value}
use Rattle.roles_dm.proofs.finding.value_finding.Goals as goal

pub returns-then-not-has : goal.returns-then-not-has
returns-then-not-has c base rs G x t o h = no_value_node base c.args.graph.now c.args.words.now rs G x c.args.numbers t c.args.column.now h (fails c.has.result c.has.ensures c.if-not-has.true)

pub returns-then-canonical : goal.returns-then-canonical
returns-then-canonical c base rs G x t o h = value base c.args.graph.now c.args.words.now rs G x c.args.numbers t c.args.column.now h (c.has.ensures.0 c.if-not-has.false) (subst (IsCanonicalOf c.args.column.now.kind) (sym o) (c.in_ok-canonical.ensures.0 c.if-canonical.true))

pub returns-else-canonical : goal.returns-else-canonical
returns-else-canonical c base rs G x t o h = no_value base c.args.graph.now c.args.words.now rs G x c.args.numbers t c.args.column.now h (λ k. fails c.in_ok-canonical.canonical c.in_ok-canonical.ensures c.if-canonical.false (subst (IsCanonicalOf c.args.column.now.kind) o k))
