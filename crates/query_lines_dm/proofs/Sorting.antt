-- Each list has one with the same items in order, each once.
use Rattle.std.proofs.Common.{◌≡◌, ◌⊎◌, ◌∙◌, List, [], ◌∷◌, subst, sym, inl, inr}
use Rattle.std.specs.Prelude.{◌↔◌}
use Rattle.members_dm.specs.Membership.{IsIn, IsRising, SameItems}
use Rattle.members_dm.proofs.ElementsLemmas.{IsRising-cons}

module _ {X : Type 0} (before : X → X → Type 0) (chain : (x y z : X) → before x y → before y z → before x z) (sides : (x y : X) → before x y ⊎ ((x ≡ y) ⊎ before y x)) where
  -- with one more item
  record Adds (x : X) (ys : List X) : Type 0 where
    pub items : List X
    pub rising : IsRising before items
    pub exact : (a : X) → IsIn a items ↔ ((x ≡ a) ⊎ IsIn a ys)

  add : (x : X) (ys : List X) → IsRising before ys → Adds x ys
  add x [] rise = record { items = x ∷ []; rising = ((λ y h. absurd h), tt); exact = λ a. ((λ h. h), (λ h. h)) }
  add x (y ∷ ys) rise = by_side (sides x y) (λ _. add x ys rise.1)
    where
      behind : before y x → Adds x ys → Adds x (y ∷ ys)
      behind e more = record {
        items = y ∷ more.items;
        rising = ((λ b h. elim ((more.exact b).0 h) [ inl is ↦ subst (before y) is e | inr k ↦ rise.0 b k ]), more.rising);
        exact = λ a. (
          (λ h. elim h [ inl is ↦ inr (inl is) | inr k ↦ elim ((more.exact a).0 k) [ inl is ↦ inl is | inr m ↦ inr (inr m) ] ]),
          (λ h. elim h [ inl is ↦ inr ((more.exact a).1 (inl is)) | inr k ↦ elim k [ inl is ↦ inl is | inr m ↦ inr ((more.exact a).1 (inr m)) ] ]),
        );
      }

      by_side : before x y ⊎ ((x ≡ y) ⊎ before y x) → (Unit {0} → Adds x ys) → Adds x (y ∷ ys)
      by_side (inl e) more = record { items = x ∷ y ∷ ys; rising = IsRising-cons before chain x y ys e rise; exact = λ a. ((λ h. h), (λ h. h)) }
      by_side (inr (inl same)) more = record { items = y ∷ ys; rising = rise; exact = λ a. ((λ h. inr h), (λ h. elim h [ inl is ↦ inl (sym same ∙ is) | inr k ↦ k ])) }
      by_side (inr (inr e)) more = behind e (more tt)

  pub record Sorted (xs : List X) : Type 0 where
    pub items : List X
    pub rising : IsRising before items
    pub same : SameItems items xs

  pub sorted : (xs : List X) → Sorted xs
  sorted [] = record { items = []; rising = tt; same = λ a. ((λ h. h), (λ h. h)) }
  sorted (x ∷ xs) =
      let rest = sorted xs in
      let more = add x rest.items rest.rising in
      record {
        items = more.items;
        rising = more.rising;
        same = λ a. (
          (λ h. elim ((more.exact a).0 h) [ inl is ↦ inl is | inr k ↦ inr ((rest.same a).0 k) ]),
          (λ h. (more.exact a).1 (elim h [ inl is ↦ inl is | inr k ↦ inr ((rest.same a).1 k) ])),
        );
      }
