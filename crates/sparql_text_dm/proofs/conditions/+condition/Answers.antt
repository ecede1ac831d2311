use Rattle.std.proofs.Common.{◌∙◌, sym}
use Rattle.sparql_text_dm.proofs.Exits.{bound_is, gives_as, grouped_is, no_condition, same_term_is}
use Rattle.sparql_text_dm.proofs.conditions.+condition.Goals as goal

pub proper_within-returns-then-levels-eq0 : goal.proper_within-returns-then-levels-eq0
proper_within-returns-then-levels-eq0 t c = no_condition c.args.levels c.args.tokens.now c.if-levels-eq0.true

pub proper_within-returns-then-starts_with : goal.proper_within-returns-then-starts_with
proper_within-returns-then-starts_with t c = gives_as c.bound.result _ _ (bound_is c.args.levels c.args.tokens.now c.if-levels-eq0.false (sym c.starts_with.ensures ∙ c.if-starts_with.true)) c.bound.ensures

pub proper_within-returns-then-starts_with-2 : goal.proper_within-returns-then-starts_with-2
proper_within-returns-then-starts_with-2 t c =
    gives_as c.same_term.result _ _
    (same_term_is c.args.levels c.args.tokens.now c.if-levels-eq0.false (sym c.starts_with.ensures ∙ c.if-starts_with.false) (sym c.starts_with-else-starts_with.ensures ∙ c.if-starts_with-2.true)) c.same_term.ensures

pub proper_within-returns-else-starts_with-2 : goal.proper_within-returns-else-starts_with-2
proper_within-returns-else-starts_with-2 t c =
    gives_as c.grouped.result _ _
    (grouped_is c.args.levels c.args.tokens.now c.if-levels-eq0.false (sym c.starts_with.ensures ∙ c.if-starts_with.false) (sym c.starts_with-else-starts_with.ensures ∙ c.if-starts_with-2.false)) c.grouped.ensures
