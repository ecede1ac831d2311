-- Some list has exactly the items with a property that all are in a list; and lists of all rows of given cells.
use Rattle.std.proofs.Common.{ℕ, zero, suc, List, [], ◌∷◌, length, map, refl, subst, sym, inl, inr}
use Rattle.std.specs.Prelude.{◌↔◌}
use Rattle.std.specs.List.{flat_map}
use Rattle.members_dm.specs.Membership.{IsIn}
use Rattle.members_dm.proofs.MembershipLemmas.{IsIn-back, IsIn-front, map-IsIn}

module _ {X : Type 0} (P : X → Type 0) where
  -- the items of a list that have the property
  chosen_of : (xs : List X) → ¬ ((ys : List X) → ¬ ((x : X) → IsIn x ys ↔ (IsIn x xs × P x)))
  chosen_of [] none = none [] (λ x. ((λ h. absurd h), (λ h. h.0)))
  chosen_of (z ∷ xs) none =
      chosen_of xs (λ ys are.
      let no : ¬ P z = λ p. none (z ∷ ys) (λ x. (
        (λ h. elim h [ inl is ↦ (inl is, subst P is p) | inr k ↦ (let r = (are x).0 k in (inr r.0, r.1)) ]),
        (λ h. elim h.0 [ inl is ↦ inl is | inr k ↦ inr ((are x).1 (k, h.1)) ]),
      )) in
      none ys (λ x. (
        (λ h. (let r = (are x).0 h in (inr r.0, r.1))),
        (λ h. elim h.0 [ inl is ↦ absurd (no (subst P (sym is) h.1)) | inr k ↦ (are x).1 (k, h.1) ]),
      )))

  pub chosen : (xs : List X) → ((x : X) → P x → IsIn x xs) → ¬ ((ys : List X) → ¬ ((x : X) → IsIn x ys ↔ P x))
  chosen xs all none = chosen_of xs (λ ys are. none ys (λ x. ((λ h. ((are x).0 h).1), (λ p. (are x).1 (all x p, p)))))

pub in_flat : {X Y : Type 0} (f : X → List Y) (xs : List X) (x : X) (y : Y) → IsIn x xs → IsIn y (f x) → IsIn y (flat_map f xs)
in_flat f [] x y h k = absurd h
in_flat f (z ∷ xs) x y (inl is) k = IsIn-front y (f z) (flat_map f xs) (subst (λ w. IsIn y (f w)) (sym is) k)
in_flat f (z ∷ xs) x y (inr h) k = IsIn-back y (f z) (flat_map f xs) (in_flat f xs x y h k)

-- all lists of so many of the items
pub lists_of : {X : Type 0} → List X → ℕ → List (List X)
lists_of xs zero = [] ∷ []
lists_of xs (suc n) = flat_map (λ x. map (λ ys. x ∷ ys) (lists_of xs n)) xs

pub in_lists : {X : Type 0} (xs ys : List X) → ((x : X) → IsIn x ys → IsIn x xs) → IsIn ys (lists_of xs (length ys))
unfolding lists_of
in_lists xs [] each = inl refl
in_lists xs (y ∷ ys) each =
    in_flat (λ x. map (λ ys. x ∷ ys) (lists_of xs (length ys))) xs y (y ∷ ys) (each y (inl refl))
    (map-IsIn (λ zs. y ∷ zs) ys (lists_of xs (length ys)) (in_lists xs ys (λ x h. each x (inr h))))
