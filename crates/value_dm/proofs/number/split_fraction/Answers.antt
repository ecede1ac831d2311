use Rattle.std.proofs.Common.{◌≡◌, ◌<◌, ◌-◌, ◌∙◌, drop, length, length-drop, sym, arith}
use Rattle.std.proofs.lemmas.Bool.{eqb-true}
use Rattle.std.proofs.lemmas.List.{take_all}
use Rattle.value_dm.proofs.NumberTexts.{behind_point, fraction_of, no_fraction, is_some_length}
use Rattle.value_dm.proofs.number.split_fraction.Goals as goal

pub returns-then-is_empty-2 : goal.returns-then-is_empty-2
returns-then-is_empty-2 c =
    let some : 0 < length c.args.text.now = is_some_length _ (sym c.is_empty.ensures ∙ c.if-is_empty.false) in
    let rest : length c.args.text.now - 1 ≡ length (drop 1 c.args.text.now) = sym (length-drop 1 c.args.text.now) in
    let all = take_all (length c.args.text.now - 1) (drop 1 c.args.text.now) (omega arith) in
    fraction_of c.args.text.now (drop 1 c.args.text.now) c.split_digits.result.0.now c.split_digits.result.1.now
    (behind_point c.args.text.now some (omega arith)) (sym all ∙ c.split_digits.ensures.parts) c.split_digits.ensures.digits (eqb-true _ _ (sym c.is_empty-2.ensures ∙ c.if-is_empty-2.true))

pub returns-else-is_empty-2 : goal.returns-else-is_empty-2
returns-else-is_empty-2 c =
    let some : 0 < length c.args.text.now = is_some_length _ (sym c.is_empty.ensures ∙ c.if-is_empty.false) in
    let rest : length c.args.text.now - 1 ≡ length (drop 1 c.args.text.now) = sym (length-drop 1 c.args.text.now) in
    let all = take_all (length c.args.text.now - 1) (drop 1 c.args.text.now) (omega arith) in
    no_fraction c.args.text.now (drop 1 c.args.text.now) c.split_digits.result.0.now c.split_digits.result.1.now
    (behind_point c.args.text.now some (omega arith)) (sym all ∙ c.split_digits.ensures.parts) c.split_digits.ensures.digits c.split_digits.ensures.ends (is_some_length _ (sym c.is_empty-2.ensures ∙ c.if-is_empty-2.false))
