use Rattle.std.proofs.Common.{◌≡◌, ◌∙◌, ap, arith, length, string_bytes, take_all}
use Rattle.std.specs.List.{flat_map}
use Rattle.std.proofs.lemmas.List.{append_assoc}
use Rattle.cmd_dm.specs.Check.{check_text, violation_line}
use Rattle.cmd_dm.proofs.check.check_text.Goals as goal

pub returns : goal.returns
unfolding check_text
returns c =
    let whole : length c.args.found.now ≡ c.loop-violation.violation-index = omega (arith, c.loop-violation-test.false, c.loop-violation.auto) in
    let lines : string_bytes c.loop-violation.text ≡ flat_map (violation_line c.args.tables.now) c.args.found.now =
    c.loop-violation.invariant ∙ ap (λ found. flat_map (violation_line c.args.tables.now) found) (take_all _ _ (omega (arith, whole))) in
    c.in_ok-push_str.ensures.bytes ∙ rw (c.in_ok-push_labelled.ensures, lines) (simp append_assoc)
