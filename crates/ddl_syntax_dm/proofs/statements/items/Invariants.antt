use Rattle.std.proofs.Common.{length}
use Rattle.grammar_dm.proofs.Walks.{ListWalk}
use Rattle.ddl_tokens_dm.specs.declared.token.Sign.TheVariants as signs
use Rattle.ddl_syntax_dm.specs.Reading.{is_sign, next_item_at, items_at}
use Rattle.ddl_syntax_dm.proofs.statements.items.Given as goal

abbrev pub invariant-items : goal.invariant-items
invariant-items l = ListWalk (is_sign signs.Comma) next_item_at l.found l.rest (items_at l.tokens)

abbrev pub decreases-items : goal.decreases-items
decreases-items l = length l.rest
