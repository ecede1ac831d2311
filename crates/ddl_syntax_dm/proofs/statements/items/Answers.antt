use Rattle.std.proofs.Common.{sym, ◌∙◌}
use Rattle.grammar_dm.proofs.Walks.{list_on}
use Rattle.ddl_tokens_dm.specs.declared.token.Sign.TheVariants as signs
use Rattle.ddl_syntax_dm.specs.Reading.{is_sign, next_item_at, items_at}
use Rattle.ddl_syntax_dm.proofs.Loops.{items_begin}
use Rattle.ddl_syntax_dm.proofs.statements.items.Goals as goal

pub items-init : goal.items-init
items-init c = items_begin c.args.tokens.now c.in_ok-first.rest.now c.in_ok-first.first c.new-found.result c.push.new.self c.in_ok-first.ensures c.new-found.ensures c.in_ok-push.ensures.ok

pub items-preserved : goal.items-preserved
items-preserved c =
    list_on (is_sign signs.Comma) next_item_at c.items.found c.push-in-items.new.self c.items.rest.now c.in_ok-next.after.now c.in_ok-next.next (items_at c.args.tokens.now) c.items.invariant
    (sym c.starts_with_sign.ensures ∙ c.items-test.true) c.in_ok-next.ensures c.in_ok-push-2.ensures.ok
