use Rattle.std.proofs.Common.{length}
use Rattle.grammar_dm.proofs.Walks.{ListWalk}
use Rattle.sparql_text_dm.specs.Reading.{variable_at, variables_at}
use Rattle.sparql_text_dm.specs.Words.{is_variable_token}
use Rattle.sparql_text_dm.proofs.reader.variables.Given as goal

abbrev pub invariant-variables : goal.invariant-variables
invariant-variables l = ListWalk is_variable_token variable_at l.found l.rest (variables_at l.tokens)

abbrev pub decreases-variables : goal.decreases-variables
decreases-variables l = length l.rest
