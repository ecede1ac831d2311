use Rattle.std.proofs.Common.{◌≡◌, ◌≤◌, ◌<◌, ℕ, All, List, arith, get_or, length, subst}
use Rattle.std.proofs.lemmas.List.{take_all}
use Rattle.std.proofs.lemmas.List.Elements.{All-more}
use Rattle.value_dm.specs.Texts.{IsText}
use Rattle.roles_dm.proofs.naming.are_texts.Goals as goal

pub loop-name-preserved : goal.loop-name-preserved
loop-name-preserved c =
    let same = c.as_slice-name-items.ensures in
    All-more IsText c.args.names.now c.loop-name.name-index c.name-item.result (subst (λ (xs : List (List ℕ)). c.loop-name.name-index < length xs) same c.loop-name-test.true) c.loop-name.invariant
    (subst IsText (subst (λ (xs : List (List ℕ)). c.name-item.result ≡ get_or xs c.loop-name.name-index c.name-item.result) same c.name-item.is) c.as_str-characters.ensures.scalars)

pub returns : goal.returns
returns c =
    let past : length c.as_slice-name-items.result.now ≤ c.loop-name.name-index = omega (arith, c.loop-name-test.false) in
    subst (All IsText) (take_all c.loop-name.name-index c.args.names.now (subst (λ (xs : List (List ℕ)). length xs ≤ c.loop-name.name-index) c.as_slice-name-items.ensures past)) c.loop-name.invariant
