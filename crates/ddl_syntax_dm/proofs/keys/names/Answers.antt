use Rattle.std.proofs.Common.{sym, ◌∙◌}
use Rattle.grammar_dm.proofs.Walks.{list_on}
use Rattle.ddl_tokens_dm.specs.declared.token.Sign.TheVariants as signs
use Rattle.ddl_syntax_dm.specs.Reading.{is_sign, next_name_at, names_at}
use Rattle.ddl_syntax_dm.proofs.Loops.{names_begin}
use Rattle.ddl_syntax_dm.proofs.keys.names.Goals as goal

pub names-init : goal.names-init
names-init c = names_begin c.args.tokens.now c.in_ok-first.rest.now c.in_ok-first.first c.new-found.result c.push.new.self c.in_ok-first.ensures c.new-found.ensures c.in_ok-push.ensures.ok

pub names-preserved : goal.names-preserved
names-preserved c =
    list_on (is_sign signs.Comma) next_name_at c.names.found c.push-in-names.new.self c.names.rest.now c.in_ok-next.after.now c.in_ok-next.next (names_at c.args.tokens.now) c.names.invariant
    (sym c.starts_with_sign.ensures ∙ c.names-test.true) c.in_ok-next.ensures c.in_ok-push-2.ensures.ok
