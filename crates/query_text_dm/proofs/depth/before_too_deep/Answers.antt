use Rattle.std.proofs.Common.{refl, sym, ◌∙◌}
use Rattle.query_text_dm.proofs.Depths.{passed_all, passed_begins, passed_cut, passed_on}
use Rattle.query_text_dm.proofs.depth.before_too_deep.Goals as goal

pub depth-init : goal.depth-init
depth-init c = passed_begins c.args.tokens.now

pub depth-preserved : goal.depth-preserved
depth-preserved c =
    passed_on c.args.tokens.now c.depth.kept _ c.depth.count c.past-count.result c.depth.rest.now c.in-Some.behind.now c.in-Some.first.now c.depth.invariant c.in-Some.ensures.cases.0
    (sym c.is_too_deep.ensures ∙ c.if-is_too_deep.false) c.past-count.ensures refl

pub returns : goal.returns
returns c = passed_all c.args.tokens.now c.depth.kept c.depth.count c.depth.rest.now c.depth.invariant c.in_default.ensures.cases

pub returns-then-is_too_deep : goal.returns-then-is_too_deep
returns-then-is_too_deep c =
    passed_cut c.args.tokens.now c.depth.kept c.depth.count c.depth.rest.now c.in-Some.behind.now _ c.in-Some.first.now c.depth.invariant c.in-Some.ensures.cases.0
    (sym c.is_too_deep.ensures ∙ c.if-is_too_deep.true) refl
