use Rattle.std.proofs.Common.{◌≡◌, sym, ap, ◌∙◌, arith, List, ℕ, ◌++◌, subst, refl}
use Rattle.std.specs.Prelude.{replicate, unsigned_abs, FitsSigned}
use Rattle.std.specs.Int.{w128}
use Rattle.std.proofs.lemmas.Int.{to_z-of_z}
use Rattle.std.specs.Str.Parse.{AllDigits, digits_value, digits_value_after}
use Rattle.value_dm.proofs.Numerals.{AllDigits-front, digits_value_after-append, digits_value_after-ge}
use Rattle.value_dm.proofs.DecimalValues.{Kept, same_number_is, same_number_of, shortest_kept, unsigned_abs-signed}
use Rattle.value_dm.specs.Spelling.{signed}
use Rattle.value_dm.proofs.number.decimal_of.Goals as goal

kept_digits : (kept fraction : List ℕ) (zeros : ℕ) → fraction ≡ kept ++ replicate zeros 48 → AllDigits 10 fraction → AllDigits 10 kept
kept_digits kept fraction zeros e all = let P : List ℕ → Type 0 = AllDigits 10 in AllDigits-front kept (replicate zeros 48) (subst P e all)

pub returns-then-kept-gt38 : goal.returns-then-kept-gt38
returns-then-kept-gt38 c =
    let t = c.without_end_zeros-kept.ensures in
    let kept : Kept c.args.whole.now c.without_end_zeros-kept.result.now c.args.fraction.now =
    record { zeros = t.zeros.0; parts = t.zeros.1; ends = t.ends; digits = kept_digits _ _ t.zeros.0 t.zeros.1 c.requires.fraction } in
    λ d same. let is = same_number_is c.args.negative _ _ _ kept d same in omega arith

pub returns-in_default : goal.returns-in_default
returns-in_default c =
    let t = c.without_end_zeros-kept.ensures in
    let kept : Kept c.args.whole.now c.without_end_zeros-kept.result.now c.args.fraction.now =
    record { zeros = t.zeros.0; parts = t.zeros.1; ends = t.ends; digits = kept_digits _ _ t.zeros.0 t.zeros.1 c.requires.fraction } in
    let joined = digits_value_after-append 0 c.args.whole.now c.without_end_zeros-kept.result.now in
    let more = digits_value_after-ge (digits_value 10 c.args.whole.now) c.without_end_zeros-kept.result.now in
    λ d same. let is = same_number_is c.args.negative _ _ _ kept d same in omega (arith, c.in_default.ensures)

pub append_digits-requires-2-clause-all : goal.append_digits-requires-2-clause-all
append_digits-requires-2-clause-all c =
    let t = c.without_end_zeros-kept.ensures in kept_digits _ _ t.zeros.0 t.zeros.1 c.requires.fraction

pub returns-in_default-append_digits : goal.returns-in_default-append_digits
returns-in_default-append_digits c =
    let t = c.without_end_zeros-kept.ensures in
    let kept : Kept c.args.whole.now c.without_end_zeros-kept.result.now c.args.fraction.now =
    record { zeros = t.zeros.0; parts = t.zeros.1; ends = t.ends; digits = kept_digits _ _ t.zeros.0 t.zeros.1 c.requires.fraction } in
    let joined = digits_value_after-append 0 c.args.whole.now c.without_end_zeros-kept.result.now in
    let high = rw c.in-Some.ensures.0 at c.in_default-append_digits.ensures in
    λ d same. let is = same_number_is c.args.negative _ _ _ kept d same in omega (arith, high)

pub invariant_of-result : goal.invariant_of-result
invariant_of-result c =
    let t = c.without_end_zeros-kept.ensures in
    let kept : Kept c.args.whole.now c.without_end_zeros-kept.result.now c.args.fraction.now =
    record { zeros = t.zeros.0; parts = t.zeros.1; ends = t.ends; digits = kept_digits _ _ t.zeros.0 t.zeros.1 c.requires.fraction } in
    let fits : FitsSigned w128 c.signed_number.result = record { sfits = c.signed_number.type_inv } in
    let size = ap unsigned_abs (to_z-of_z w128 c.signed_number.result fits ∙ c.signed_number.ensures) ∙ unsigned_abs-signed c.args.negative c.in-Some-append_digits.number in
    let value = c.in-Some-append_digits.ensures.0 ∙ ap (λ n. digits_value_after 10 n c.without_end_zeros-kept.result.now) c.in-Some.ensures.0
    ∙ sym (digits_value_after-append 0 c.args.whole.now c.without_end_zeros-kept.result.now) in
    record {
      in_digits = omega (arith, size, c.in-Some-append_digits.ensures.1);
      in_scale = omega arith;
      shortest = λ some. let last = shortest_kept _ _ _ kept some in omega (arith, size, value, last);
    }

pub returns : goal.returns
returns c =
    let t = c.without_end_zeros-kept.ensures in
    let kept : Kept c.args.whole.now c.without_end_zeros-kept.result.now c.args.fraction.now =
    record { zeros = t.zeros.0; parts = t.zeros.1; ends = t.ends; digits = kept_digits _ _ t.zeros.0 t.zeros.1 c.requires.fraction } in
    let fits : FitsSigned w128 c.signed_number.result = record { sfits = c.signed_number.type_inv } in
    let value = c.in-Some-append_digits.ensures.0 ∙ ap (λ n. digits_value_after 10 n c.without_end_zeros-kept.result.now) c.in-Some.ensures.0
    ∙ sym (digits_value_after-append 0 c.args.whole.now c.without_end_zeros-kept.result.now) in
    same_number_of c.args.negative _ _ _ kept _ (to_z-of_z w128 c.signed_number.result fits ∙ c.signed_number.ensures ∙ ap (signed c.args.negative) value) refl
