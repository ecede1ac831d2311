use Rattle.std.proofs.Common.{◌≡◌, length, ap, ◌∙◌, sym, arith, List, ℕ, subst, take, length-append}
use Rattle.std.specs.Str.Parse.{AllDigits}
use Rattle.std.proofs.lemmas.List.{length-take-le}
use Rattle.value_dm.specs.Digits.{fixed_digits}
use Rattle.value_dm.proofs.FixedDigits.{length-fixed_digits, AllDigits-fixed_digits}
use Rattle.value_dm.proofs.Fronts.{front_number, front_same}
use Rattle.value_dm.proofs.digits.take_number.Goals as goal

pub returns-then-text-count : goal.returns-then-text-count
returns-then-text-count c =
    λ n rest small e.
    let len = ap (λ (x : List ℕ). length x) e ∙ length-append (fixed_digits c.args.count n) rest in
    let digits = length-fixed_digits c.args.count n in omega arith

pub returns-in-Some : goal.returns-in-Some
returns-in-Some c =
    let h = c.in-Some.ensures in
    let len : length (take c.args.count c.args.text.now) ≡ c.args.count = length-take-le c.args.count c.args.text.now (omega arith) in
    front_number c.args.text.now c.args.count c.in-Some.number (omega arith) len h.0 h.1 h.2

pub returns-in-None : goal.returns-in-None
returns-in-None c =
    λ n rest small e.
    let P : List ℕ → Type 0 = AllDigits 10 in
    c.in-None.ensures (subst P (sym (front_same c.args.text.now c.args.count n rest e).0) (AllDigits-fixed_digits c.args.count n))
