use Rattle.std.proofs.Common.{◌≡◌, ◌∙◌, [], true, sym, ap}
use Rattle.std.proofs.lemmas.List.{append-nil}
use Rattle.names_dm.proofs.Words.{is_tag-from_loop, rest_is_tag}
use Rattle.names_dm.proofs.Yielded.{all_yielded}
use Rattle.names_dm.proofs.tag.is_tag.Goals as goal

pub returns : goal.returns
returns c =
    let all : c.loop-c.yielded ≡ c.args.text.now = all_yielded _ c.as_str.utf8 _ (cc) c.loop-c.yielded _ c.loop-c.yielded_by _ _ c.in-None.is c.next.ensures.steps ∙ c.as_str.ensures.chars in
    sym (c.loop-c.invariant []) ∙ ap (rest_is_tag true true) (append-nil c.loop-c.yielded ∙ all) ∙ is_tag-from_loop c.args.text.now
