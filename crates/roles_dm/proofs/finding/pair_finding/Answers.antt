use Rattle.std.proofs.Common.{ap, sym, ◌∙◌}
use Rattle.names_dm.specs.Statements.{is_literal}
use Rattle.roles_dm.proofs.ColumnLemmas.{fails}
use Rattle.roles_dm.proofs.FindingLemmas.{no_pair_from, no_pair_literal, no_pair_to, pair_found}
use Rattle.roles_dm.proofs.finding.pair_finding.Goals as goal

pub returns-then-is_literal : goal.returns-then-is_literal
returns-then-is_literal c base rs G x t o h = no_pair_literal base c.args.graph.now c.args.words.now rs G x c.args.numbers t c.args.link.now h (ap is_literal o ∙ sym c.is_literal.ensures ∙ c.if-is_literal.true)

pub returns-then-not-has : goal.returns-then-not-has
returns-then-not-has c base rs G x t o h = no_pair_from base c.args.graph.now c.args.words.now rs G x c.args.numbers t c.args.link.now h (fails c.has.result c.has.ensures c.if-not-has.true)

pub returns-then-not-has-2 : goal.returns-then-not-has-2
returns-then-not-has-2 c base rs G x t o h = no_pair_to base c.args.graph.now c.args.words.now rs G x c.args.numbers t c.args.link.now h (fails c.has-2.result c.has-2.ensures c.if-not-has-2.true)

pub returns : goal.returns
returns c base rs G x t o h =
    pair_found base c.args.graph.now c.args.words.now rs G x c.args.numbers t c.args.link.now h (c.has.ensures.0 c.if-not-has.false) (c.has-2.ensures.0 c.if-not-has-2.false) (ap is_literal o ∙ sym c.is_literal.ensures ∙ c.if-is_literal.false) c.explained_pair.result
    c.explained_pair.ensures.reference c.explained_pair.ensures.relation
