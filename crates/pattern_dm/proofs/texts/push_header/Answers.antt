use Rattle.std.proofs.Common.{◌++◌, map, string_bytes, take, ap, ◌∙◌, sym, arith, append_assoc}
use Rattle.pattern_dm.specs.Texts.{gap, variable_text, spaced}
use Rattle.pattern_dm.proofs.TextLemmas.{spaced_more}
use Rattle.pattern_dm.proofs.texts.push_header.Goals as goal

pub loop-place-preserved : goal.loop-place-preserved
loop-place-preserved c =
    let place = c.loop-place.place in
    let start = string_bytes c.args.out.now in
    let so_far = spaced (map variable_text (take place c.args.header.now)) in
    let one = c.index-header-place.result in
    c.in_ok-push_variable.ensures ∙ ap (λ t. t ++ variable_text one) (c.in_ok-push_gap.ensures ∙ ap (λ t. t ++ gap place) c.loop-place.invariant)
    ∙ ap (λ t. t ++ variable_text one) (append_assoc start so_far (gap place)) ∙ append_assoc start (so_far ++ gap place) (variable_text one)
    ∙ ap (λ t. start ++ t) (append_assoc so_far (gap place) (variable_text one) ∙ ap (λ t. so_far ++ (gap place ++ variable_text t)) c.index-header-place.is ∙ sym (spaced_more variable_text c.args.header.now place one (omega arith)))
