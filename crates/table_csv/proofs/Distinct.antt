-- Lists without repeats: how many items they have, and at which places.
use Rattle.std.proofs.Common.{◌≡◌, ◌+◌, ◌<◌, ◌≤◌, ◌∙◌, ℕ, zero, suc, List, [], ◌∷◌, ◌++◌, length, get_or, refl, ap, sym, subst, arith, inl, inr, length-append}
use Rattle.members_dm.specs.Membership.{IsIn, NoRepeats}
use Rattle.members_dm.proofs.MembershipLemmas.{IsIn-append}
use Rattle.members_dm.proofs.ElementsLemmas.{item_within, split_at_item, without_middle}

-- a list without repeats is no longer than one that has its items
pub no_longer : {X : Type 0} (xs ys : List X) → NoRepeats xs → ((x : X) → IsIn x xs → IsIn x ys) → length xs ≤ length ys
no_longer [] ys once each = omega arith
no_longer {X} (x ∷ xs) ys once each =
    let (front, back, parts) = split_at_item x ys (each x (inl refl)) in
    let P : List X → Type 0 = λ zs. (y : X) → IsIn y (x ∷ xs) → IsIn y zs in
    let split : (y : X) → IsIn y (x ∷ xs) → IsIn y (front ++ x ∷ back) = subst P parts each in
    let rest = no_longer xs (front ++ back) once.1 (λ y m. elim (without_middle x y front back (split y (inr m))) [
      | inl same ↦ absurd (once.0 (let Q : X → Type 0 = λ z. IsIn z xs in subst Q (sym same) m))
      | inr there ↦ there
    ]) in
    let whole : length ys ≡ length front + suc (length back) = ap length parts ∙ length-append front (x ∷ back) in
    let less : length (front ++ back) ≡ length front + length back = length-append front back in
    omega arith

-- no two places have one item
pub one_place : {X : Type 0} (xs : List X) (i j : ℕ) (d : X) → NoRepeats xs → i < length xs → j < length xs → get_or xs i d ≡ get_or xs j d → i ≡ j
one_place [] i j d once li lj e = absurd (omega arith)
one_place (x ∷ xs) zero zero d once li lj e = refl
one_place {X} (x ∷ xs) zero (suc j) d once li lj e =
    absurd (once.0 (let P : X → Type 0 = λ y. IsIn y xs in subst P (sym e) (item_within xs j d (omega arith))))
one_place {X} (x ∷ xs) (suc i) zero d once li lj e =
    absurd (once.0 (let P : X → Type 0 = λ y. IsIn y xs in subst P e (item_within xs i d (omega arith))))
one_place (x ∷ xs) (suc i) (suc j) d once li lj e = ap suc (one_place xs i j d once.1 (omega arith) (omega arith) e)

-- one more item that isn't there yet
pub no_repeats_more : {X : Type 0} (xs : List X) (x : X) → NoRepeats xs → ¬ IsIn x xs → NoRepeats (xs ++ x ∷ [])
no_repeats_more [] x once other = ((λ h. h), tt)
no_repeats_more {X} (y ∷ xs) x once other = (
  λ h. elim (IsIn-append y xs (x ∷ []) h) [
    | inl there ↦ once.0 there
    | inr (inl same) ↦ other (inl (sym same))
    | inr (inr none) ↦ none
  ],
  no_repeats_more xs x once.1 (λ h. other (inr h)),
)
