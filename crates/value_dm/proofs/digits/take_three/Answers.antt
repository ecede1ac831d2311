use Rattle.value_dm.proofs.Fronts.{behind_first_same, behind_second_same}
use Rattle.value_dm.proofs.digits.take_three.Goals as goal

pub returns-in_default-take_pair : goal.returns-in_default-take_pair
returns-in_default-take_pair c =
    λ a b d rest small two three e.
    let first = behind_first_same c.args.text.now c.args.count c.args.separator _ a b d _ rest c.in-Some.ensures.0 small c.in-Some.ensures.1 e in
    c.in_default-take_pair.ensures b _ two first.1

pub returns-in-None : goal.returns-in-None
returns-in-None c =
    λ a b d rest small two three e.
    let first = behind_first_same c.args.text.now c.args.count c.args.separator _ a b d _ rest c.in-Some.ensures.0 small c.in-Some.ensures.1 e in
    let second = behind_second_same c.args.separator _ b _ _ _ c.in-Some-take_pair.ensures.0 two c.in-Some-take_pair.ensures.1 first.1 in
    c.in-None.ensures d rest three second.1
