use Rattle.std.proofs.Common.{◌≡◌, ◌∙◌, ◌++◌, ◌+◌, [], ◌∷◌, sym, ap, take, get_or, List, ℕ}
use Rattle.std.proofs.lemmas.List.{take_more}
use Rattle.names_dm.specs.Rows.{key_list, key_pair}
use Rattle.names_dm.proofs.Lists.{four_parts}
use Rattle.names_dm.proofs.Keys.{AreLawful-push, is_empty-key_push, key_list-push}
use Rattle.names_dm.proofs.key.with_key.Goals as goal

pub loop-part-preserved : goal.loop-part-preserved
loop-part-preserved c =
    let i = c.loop-part.part-index in
    let key = c.args.key.now in
    let part = c.part-item.result in
    let item : get_or key i part ≡ part = sym (c.part-item.is ∙ ap (λ ys. get_or ys i part) c.as_slice-part-items.ensures) in
    let more : take (i + 1) key ≡ take i key ++ part ∷ [] =
    take_more key i part (rw c.as_slice-part-items.ensures at c.loop-part-test.true) ∙ ap (λ y. take i key ++ y ∷ []) item in (
      rw more (
          c.in_ok-spelling.ensures.text
          ∙ rw (c.in_ok-with.ensures, c.loop-part.invariant.0, c.mark_before.ensures, c.loop-part.invariant.1)
          (four_parts c.args.spelling (key_list (take i key)) _ (key_pair part) ∙ ap (λ (t : List ℕ). c.args.spelling ++ t) (sym (key_list-push (take i key) part)))
          ),
      rw more (is_empty-key_push (take i key) part),
      rw more (AreLawful-push (take i key) part c.loop-part.invariant.2 c.in_ok-spelling.ensures.lawful),
    )
