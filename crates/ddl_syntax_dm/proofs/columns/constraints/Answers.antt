use Rattle.std.proofs.Common.{sym, ◌∙◌}
use Rattle.grammar_dm.proofs.Walks.{list_on}
use Rattle.ddl_syntax_dm.specs.Reading.{begins_constraint, constraint_at, constraints_at}
use Rattle.ddl_syntax_dm.proofs.Loops.{constraints_begin}
use Rattle.ddl_syntax_dm.proofs.columns.constraints.Goals as goal

pub constraints-init : goal.constraints-init
constraints-init c = constraints_begin c.new-found.result c.args.tokens.now c.new-found.ensures

pub constraints-preserved : goal.constraints-preserved
constraints-preserved c =
    list_on begins_constraint constraint_at c.constraints.found c.push.new.self c.constraints.rest.now c.in_ok-next.after.now c.in_ok-next.next (constraints_at c.args.tokens.now) c.constraints.invariant
    (sym c.starts_with_constraint.ensures ∙ c.constraints-test.true) c.in_ok-next.ensures c.in_ok-push.ensures.ok
