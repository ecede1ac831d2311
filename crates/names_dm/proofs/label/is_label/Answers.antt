use Rattle.std.proofs.Common.{◌≡◌, ◌∙◌, sym}
use Rattle.names_dm.proofs.Words.{begins_well-push, is_label-from_loop, is_nonempty-push, last_of-push}
use Rattle.names_dm.proofs.Yielded.{all_yielded}
use Rattle.names_dm.proofs.label.is_label.Goals as goal

pub loop-c-preserved : goal.loop-c-preserved
loop-c-preserved c = (
  rw (c.loop-c.invariant.0, c.loop-c.invariant.1, c.continues_label.ensures, c.begins_label.ensures) (sym (begins_well-push c.loop-c.yielded c.in-Some.c)),
  sym (is_nonempty-push c.loop-c.yielded c.in-Some.c),
  sym (last_of-push 46 c.in-Some.c c.loop-c.yielded),
)

pub returns : goal.returns
returns c =
    let all : c.loop-c.yielded ≡ c.args.text.now = all_yielded _ c.as_str.utf8 _ (cc) c.loop-c.yielded _ c.loop-c.yielded_by _ _ c.in-None.is c.next.ensures.steps ∙ c.as_str.ensures.chars in
    rw (c.loop-c.invariant.0, c.loop-c.invariant.2, all) (is_label-from_loop c.args.text.now)
