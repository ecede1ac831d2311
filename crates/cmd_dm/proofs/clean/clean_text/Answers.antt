use Rattle.std.proofs.Common.{◌≡◌, ◌∙◌, ap, arith, length, string_bytes, take_all}
use Rattle.std.specs.List.{flat_map}
use Rattle.std.proofs.lemmas.List.{append_assoc}
use Rattle.cmd_dm.specs.Clean.{clean_text, removal_line}
use Rattle.cmd_dm.proofs.clean.clean_text.Goals as goal

pub returns : goal.returns
unfolding clean_text
returns c =
    let whole : length c.args.removals.now ≡ c.loop-removal.removal-index = omega (arith, c.loop-removal-test.false, c.loop-removal.auto) in
    let lines : string_bytes c.loop-removal.text ≡ flat_map (removal_line c.args.tables.now) c.args.removals.now =
    c.loop-removal.invariant ∙ ap (λ removals. flat_map (removal_line c.args.tables.now) removals) (take_all _ _ (omega (arith, whole))) in
    c.in_ok-push_str.ensures.bytes ∙ rw (c.in_ok-push_labelled.ensures, lines) (simp append_assoc)
