use Rattle.std.proofs.Common.{length}
use Rattle.grammar_dm.proofs.Walks.{ListWalk}
use Rattle.query_text_dm.specs.Reading.{is_name, name_at, names_at}
use Rattle.query_text_dm.proofs.reader.names.Given as goal

abbrev pub invariant-names : goal.invariant-names
invariant-names l = ListWalk is_name name_at l.found l.rest (names_at l.tokens)

abbrev pub decreases-names : goal.decreases-names
decreases-names l = length l.rest
