use Rattle.std.proofs.Common.{◌≡◌, ◌∙◌, sym}
use Rattle.names_dm.specs.Terminals.{is_variable, is_variable_character}
use Rattle.names_dm.proofs.Words.{bad-push, is_nonempty-push, is_word_of-from_loop}
use Rattle.names_dm.proofs.Yielded.{all_yielded}
use Rattle.names_dm.proofs.var.is_variable.Goals as goal

pub loop-c-preserved : goal.loop-c-preserved
loop-c-preserved c = (
  rw (c.loop-c.invariant.0, c.is_variable_character.ensures) (bad-push is_variable_character c.loop-c.yielded c.in-Some.c),
  sym (is_nonempty-push c.loop-c.yielded c.in-Some.c),
)

pub returns : goal.returns
unfolding is_variable
returns c =
    let all : c.loop-c.yielded ≡ c.args.text.now = all_yielded _ c.as_str.utf8 _ (cc) c.loop-c.yielded _ c.loop-c.yielded_by _ _ c.in-None.is c.next.ensures.steps ∙ c.as_str.ensures.chars in
    rw (c.loop-c.invariant.0, c.loop-c.invariant.1, all) (is_word_of-from_loop is_variable_character c.args.text.now)
