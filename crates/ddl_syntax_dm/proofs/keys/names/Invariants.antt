use Rattle.std.proofs.Common.{length}
use Rattle.grammar_dm.proofs.Walks.{ListWalk}
use Rattle.ddl_tokens_dm.specs.declared.token.Sign.TheVariants as signs
use Rattle.ddl_syntax_dm.specs.Reading.{is_sign, next_name_at, names_at}
use Rattle.ddl_syntax_dm.proofs.keys.names.Given as goal

abbrev pub invariant-names : goal.invariant-names
invariant-names l = ListWalk (is_sign signs.Comma) next_name_at l.found l.rest (names_at l.tokens)

abbrev pub decreases-names : goal.decreases-names
decreases-names l = length l.rest
