use Rattle.std.proofs.Common.{refl, sym, ◌∙◌}
use Rattle.sparql_text_dm.proofs.Depths.{passed_all, passed_begins, passed_cut, passed_on}
use Rattle.sparql_text_dm.proofs.depth.before_too_nested.Goals as goal

pub depth-init : goal.depth-init
depth-init c = passed_begins c.args.tokens.now

pub depth-preserved : goal.depth-preserved
depth-preserved c =
    passed_on c.args.tokens.now c.depth.kept _ c.depth.count c.past-count.result c.depth.rest.now c.in-Some.behind.now c.in-Some.first.now c.depth.invariant c.in-Some.ensures.cases.0
    (sym c.is_too_nested.ensures ∙ c.if-is_too_nested.false) c.past-count.ensures refl

pub returns : goal.returns
returns c = passed_all c.args.tokens.now c.depth.kept c.depth.count c.depth.rest.now c.depth.invariant c.in_default.ensures.cases

pub returns-then-is_too_nested : goal.returns-then-is_too_nested
returns-then-is_too_nested c =
    passed_cut c.args.tokens.now c.depth.kept c.depth.count c.depth.rest.now c.in-Some.behind.now _ c.in-Some.first.now c.depth.invariant c.in-Some.ensures.cases.0
    (sym c.is_too_nested.ensures ∙ c.if-is_too_nested.true) refl
