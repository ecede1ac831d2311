-- What tests over a list decide.
use Rattle.std.proofs.Common.{◌≡◌, List, [], ◌∷◌, Bool, true, false, refl}
use Rattle.std.specs.Prelude.{◌||◌}
use Rattle.std.specs.Bool.{Decides}
use Rattle.std.specs.List.{list_any, list_all}
use Rattle.std.proofs.lemmas.Bool.Decides.{Decides-or, Decides-and, not_from_Decides}
use Rattle.members_dm.specs.Membership.{IsIn}
use Rattle.members_dm.specs.Elements.{HasSome, Each, Repeats}

pub list_any-decides : {X : Type 0} (p : X → Bool) (P : X → Type 0) → ((x : X) → Decides (p x) (P x)) → (xs : List X) → Decides (list_any p xs) (HasSome P xs)
list_any-decides p P d [] = ((λ h. cc), (λ h. absurd h))
list_any-decides p P d (x ∷ xs) = Decides-or _ _ (d x) (list_any-decides p P d xs)

pub list_all-decides : {X : Type 0} (p : X → Bool) (P : X → Type 0) → ((x : X) → Decides (p x) (P x)) → (xs : List X) → Decides (list_all p xs) (Each P xs)
list_all-decides p P d [] = ((λ h. tt), (λ h. refl))
list_all-decides p P d (x ∷ xs) = Decides-and _ _ (d x) (list_all-decides p P d xs)

-- a test of equality finds the item
pub IsIn-decides : {X : Type 0} (same : X → X → Bool) → ((x y : X) → Decides (same x y) (x ≡ y)) → (x : X) (xs : List X) → Decides (list_any (λ y. same y x) xs) (IsIn x xs)
IsIn-decides same d x [] = ((λ h. cc), (λ h. absurd h))
IsIn-decides same d x (y ∷ ys) = Decides-or _ _ (d y x) (IsIn-decides same d x ys)

-- whether an item stands again further back
abbrev pub repeats : {X : Type 0} → (X → X → Bool) → List X → Bool
repeats same [] = false
repeats same (x ∷ xs) = list_any (λ y. same y x) xs || repeats same xs

pub repeats-decides : {X : Type 0} (same : X → X → Bool) → ((x y : X) → Decides (same x y) (x ≡ y)) → (xs : List X) → Decides (repeats same xs) (Repeats xs)
repeats-decides same d [] = ((λ h. cc), (λ h. absurd h))
repeats-decides same d (x ∷ xs) = Decides-or _ _ (IsIn-decides same d x xs) (repeats-decides same d xs)

-- a fact that a test decides holds where it isn't refuted
pub stable_by_test : {P : Type 0} (b : Bool) → Decides b P → ¬ (¬ P) → P
stable_by_test true d n = d.0 refl
stable_by_test false d n = absurd (n (not_from_Decides false d refl))
