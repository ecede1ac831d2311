use Rattle.std.proofs.Common.{length}
use Rattle.grammar_dm.proofs.Walks.{ListWalk}
use Rattle.ddl_syntax_dm.specs.Reading.{begins_constraint, constraint_at, constraints_at}
use Rattle.ddl_syntax_dm.proofs.columns.constraints.Given as goal

abbrev pub invariant-constraints : goal.invariant-constraints
invariant-constraints l = ListWalk begins_constraint constraint_at l.found l.rest (constraints_at l.tokens)

abbrev pub decreases-constraints : goal.decreases-constraints
decreases-constraints l = length l.rest
