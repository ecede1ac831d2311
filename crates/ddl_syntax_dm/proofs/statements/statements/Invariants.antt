use Rattle.std.proofs.Common.{length}
use Rattle.ddl_syntax_dm.specs.Reading.{file_at}
use Rattle.ddl_syntax_dm.proofs.Loops.{FileWalk}
use Rattle.ddl_syntax_dm.proofs.statements.statements.Given as goal

abbrev pub invariant-statements : goal.invariant-statements
invariant-statements l = FileWalk l.found l.rest (file_at l.tokens)

abbrev pub decreases-statements : goal.decreases-statements
decreases-statements l = length l.rest
