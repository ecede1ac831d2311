use Rattle.std.proofs.Common.{◌≡◌, ◌∙◌, not, ap}
use Rattle.std.specs.List.{list_any}
use Rattle.names_dm.specs.Terminals.{is_forbidden, is_iri}
use Rattle.names_dm.proofs.Yielded.{all_yielded}
use Rattle.names_dm.proofs.iri.is_iri.Goals as goal

pub returns : goal.returns
unfolding is_iri
returns c =
    let all : c.loop-c.yielded ≡ c.args.text.now = all_yielded _ c.as_str.utf8 _ (cc) c.loop-c.yielded _ c.loop-c.yielded_by _ _ c.in-None.is c.next.ensures.steps ∙ c.as_str.ensures.chars in
    ap not (c.loop-c.invariant ∙ ap (list_any is_forbidden) all)
