use Rattle.std.proofs.Common.{◌++◌, map, string_bytes, take, ap, ◌∙◌, sym, arith, append_assoc}
use Rattle.pattern_dm.specs.Texts.{gap, rename_text, spaced}
use Rattle.pattern_dm.proofs.TextLemmas.{spaced_more}
use Rattle.pattern_dm.proofs.texts.push_renames.Goals as goal

pub loop-place-preserved : goal.loop-place-preserved
loop-place-preserved c =
    let place = c.loop-place.place in
    let start = string_bytes c.args.out.now in
    let so_far = spaced (map rename_text (take place c.args.renames.now)) in
    let one = c.index-renames-place.result in
    c.in_ok-push_rename.ensures ∙ ap (λ t. t ++ rename_text one) (c.in_ok-push_gap.ensures ∙ ap (λ t. t ++ gap place) c.loop-place.invariant)
    ∙ ap (λ t. t ++ rename_text one) (append_assoc start so_far (gap place)) ∙ append_assoc start (so_far ++ gap place) (rename_text one)
    ∙ ap (λ t. start ++ t) (append_assoc so_far (gap place) (rename_text one) ∙ ap (λ t. so_far ++ (gap place ++ rename_text t)) c.index-renames-place.is ∙ sym (spaced_more rename_text c.args.renames.now place one (omega arith)))
