use Rattle.std.proofs.Common.{◌≡◌, ◌++◌, ◌∷◌, [], true, false, get_or, inl, inr, refl, subst, sym, take}
use Rattle.std.proofs.lemmas.List.{take_all, take_more}
use Rattle.members_dm.specs.Membership.{IsIn}
use Rattle.members_dm.specs.Places.{IsListing}
use Rattle.members_dm.proofs.ElementsLemmas.{item_within}
use Rattle.members_dm.proofs.MembershipLemmas.{IsIn-append}
use Rattle.keys_dm.specs.Violations.{ViolatesAt}
use Rattle.keys_dm.specs.declared.violation.Violation.{Violation}
use Rattle.keys_dm.specs.declared.violation.ViolationKind.TheVariants.{NullKey}
use Rattle.clean_dm.specs.Checking.{StaysWrongly}
use Rattle.clean_dm.proofs.CheckingLemmas.{none_wrong, wrong_stays}
use Rattle.clean_dm.proofs.checking.stay_unique.Goals as goal

abbrev no_violation : Violation
no_violation = record { table = 0; row = 0; kind = NullKey }

pub returns-then-stays_wrongly : goal.returns-then-stays_wrongly
returns-then-stays_wrongly c =
    let listed : IsListing (ViolatesAt c.args.database.now) c.as_slice-violation-items.result.now = subst (IsListing (ViolatesAt c.args.database.now)) (sym c.as_slice-violation-items.ensures) c.in_ok-found.ensures.listed in
    let item : Violation = get_or c.as_slice-violation-items.result.now c.loop-violation.violation-index no_violation in
    let among : IsIn item c.as_slice-violation-items.result.now = item_within c.as_slice-violation-items.result.now c.loop-violation.violation-index no_violation c.loop-violation-test.true in (
      (λ h. absurd (let no : false ≡ true = h in cc)),
      (λ unique. absurd (wrong_stays c.args.database.now c.args.turns.now c.as_slice-violation-items.result.now listed item among (c.if-stays_wrongly.ensures.0 refl) unique)),
    )

pub loop-violation-preserved : goal.loop-violation-preserved
loop-violation-preserved c = λ violation among wrong.
    let items = c.as_slice-violation-items.result.now in
    let n = c.loop-violation.violation-index in
    let item : Violation = get_or items n no_violation in
    let parted : IsIn violation (take n items ++ item ∷ []) = subst (IsIn violation) (take_more items n no_violation c.loop-violation-test.true) among in
    elim (IsIn-append violation (take n items) (item ∷ []) parted) [
      | inl before ↦ c.loop-violation.invariant violation before wrong
      | inr (inl here) ↦ (let no : false ≡ true = c.if-stays_wrongly.ensures.1 (subst (StaysWrongly c.args.database.now c.args.turns.now) (sym here) wrong) in cc)
      | inr (inr none) ↦ absurd none
    ]

pub returns : goal.returns
returns c =
    let listed : IsListing (ViolatesAt c.args.database.now) c.as_slice-violation-items.result.now = subst (IsListing (ViolatesAt c.args.database.now)) (sym c.as_slice-violation-items.ensures) c.in_ok-found.ensures.listed in
    let all : take c.loop-violation.violation-index c.as_slice-violation-items.result.now ≡ c.as_slice-violation-items.result.now = take_all c.loop-violation.violation-index c.as_slice-violation-items.result.now c.loop-violation-test.false in (
      (λ h. none_wrong c.args.database.now c.args.turns.now c.as_slice-violation-items.result.now listed (λ violation among. c.loop-violation.invariant violation (subst (IsIn violation) (sym all) among))),
      (λ h. refl),
    )
