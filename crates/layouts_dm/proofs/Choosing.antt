-- What can't fail: of finitely many things each holds or doesn't, so lists of those that hold can't fail to be.
use Rattle.std.proofs.Common.{◌≡◌, ◌⊎◌, List, [], ◌∷◌, map, refl, sym, ap, ◌∙◌, subst, inl, inr}
use Rattle.std.specs.Prelude.{◌↔◌}
use Rattle.std.specs.List.{AllZip}
use Rattle.members_dm.specs.Membership.{IsIn, NoRepeats}

-- it can't fail
abbrev pub Surely : Type 0 → Type 0
Surely A = ¬ (¬ A)

pub surely : {A : Type 0} → A → Surely A
surely a = λ n. n a

pub next : {A B : Type 0} → Surely A → (A → Surely B) → Surely B
next m f = λ n. m (λ a. f a n)

pub told : (P : Type 0) → Surely (P ⊎ (¬ P))
told P = λ n. n (inr (λ p. n (inl p)))

pub all_surely : {X : Type 0} (P : X → Type 0) (xs : List X) → ((x : X) → IsIn x xs → Surely (P x)) → Surely ((x : X) → IsIn x xs → P x)
all_surely P [] h = surely (λ x i. absurd i)
all_surely P (y ∷ ys) h =
    next (h y (inl refl)) (λ p. next (all_surely P ys (λ x i. h x (inr i))) (λ rest. surely (λ x i. elim i [ inl e ↦ subst P e p | inr k ↦ rest x k ])))

-- the things whose images stand in the list, each once
pub record Found {X Y : Type 0} (made : X → Y) (ys : List Y) : Type 0 where
  pub items : List X
  pub once : NoRepeats items
  pub same : (x : X) → IsIn x items ↔ IsIn (made x) ys

module _ {X Y : Type 0} (made : X → Y) (one : (x y : X) → made x ≡ made y → x ≡ y) where
  -- with one more image in the list
  more : (y : Y) (ys : List Y) (f : Found made ys) → ((x : X) × (made x ≡ y)) ⊎ (¬ ((x : X) × (made x ≡ y))) → ((x : X) → made x ≡ y → IsIn x f.items ⊎ (¬ IsIn x f.items)) → Found made (y ∷ ys)
  more y ys f (inr none) among = record {
    items = f.items;
    once = f.once;
    same = λ x. ((λ i. inr ((f.same x).0 i)), (λ h. elim h [ inl e ↦ absurd (none (x, sym e)) | inr i ↦ (f.same x).1 i ]));
  }
  more y ys f (inl h) among = elim (among h.0 h.1) [
    | inl there ↦ record {
      items = f.items;
      once = f.once;
      same = λ x. (
        (λ i. inr ((f.same x).0 i)),
        (λ g. elim g [ inl e ↦ subst (λ z. IsIn z f.items) (one h.0 x (h.1 ∙ e)) there | inr i ↦ (f.same x).1 i ]),
      );
    }
    | inr new ↦ record {
      items = h.0 ∷ f.items;
      once = (new, f.once);
      same = λ x. (
        (λ i. elim i [ inl e ↦ inl (sym h.1 ∙ ap made e) | inr k ↦ inr ((f.same x).0 k) ]),
        (λ g. elim g [ inl e ↦ inl (one h.0 x (h.1 ∙ e)) | inr i ↦ inr ((f.same x).1 i) ]),
      );
    }
  ]

  pub found : (ys : List Y) → Surely (Found made ys)
  found [] = surely (record { items = []; once = tt; same = λ x. ((λ i. absurd i), (λ i. absurd i)) })
  found (y ∷ ys) =
      next (found ys) (λ f. next (told ((x : X) × (made x ≡ y))) (λ h. next (among f h) (λ a. surely (more y ys f h a))))
    where
      among : (f : Found made ys) → ((x : X) × (made x ≡ y)) ⊎ (¬ ((x : X) × (made x ≡ y))) → Surely ((x : X) → made x ≡ y → IsIn x f.items ⊎ (¬ IsIn x f.items))
      among f (inr none) = surely (λ x e. absurd (none (x, e)))
      among f (inl h) =
          next (told (IsIn h.0 f.items))
          (λ t. surely (λ x e. subst (λ z. IsIn z f.items ⊎ (¬ IsIn z f.items)) (one h.0 x (h.1 ∙ sym e)) t))

-- ---- lists side by side

pub zip_made : {X Y : Type 0} (R : X → Y → Type 0) (xs : List X) → ((x : X) → IsIn x xs → (y : Y) × R x y) → (ys : List Y) × AllZip R xs ys
zip_made R [] made = ([], tt)
zip_made R (x ∷ xs) made = let first = made x (inl refl) in let rest = zip_made R xs (λ z i. made z (inr i)) in (first.0 ∷ rest.0, (first.1, rest.1))

pub zip_surely : {X Y : Type 0} (R : X → Y → Type 0) (xs : List X) → ((x : X) → IsIn x xs → Surely ((y : Y) × R x y)) → Surely ((ys : List Y) × AllZip R xs ys)
zip_surely {X} {Y} R xs made = next (all_surely (λ x. (y : Y) × R x y) xs made) (λ h. surely (zip_made R xs h))

pub zipped : {A B : Type 0} (R : A → B → Type 0) (xs : List A) (ys : List B) → AllZip R xs ys → (x : A) → IsIn x xs → (y : B) × IsIn y ys × R x y
zipped R [] ys h x i = absurd i
zipped R (a ∷ xs) [] h x i = absurd h
zipped R (a ∷ xs) (b ∷ ys) h x (inl e) = (b, inl refl, subst (λ z. R z b) e h.0)
zipped R (a ∷ xs) (b ∷ ys) h x (inr i) = let r = zipped R xs ys h.1 x i in (r.0, inr r.1, r.2)

pub zipped_back : {A B : Type 0} (R : A → B → Type 0) (xs : List A) (ys : List B) → AllZip R xs ys → (y : B) → IsIn y ys → (x : A) × IsIn x xs × R x y
zipped_back R [] [] h y i = absurd i
zipped_back R [] (b ∷ ys) h y i = absurd h
zipped_back R (a ∷ xs) [] h y i = absurd h
zipped_back R (a ∷ xs) (b ∷ ys) h y (inl e) = (a, inl refl, subst (λ z. R a z) e h.0)
zipped_back R (a ∷ xs) (b ∷ ys) h y (inr i) = let r = zipped_back R xs ys h.1 y i in (r.0, inr r.1, r.2)

pub keys_of : {X Y Z : Type 0} (R : X → Y → Type 0) (f : X → Z) (g : Y → Z) → ((x : X) (y : Y) → R x y → f x ≡ g y) → (xs : List X) (ys : List Y) → AllZip R xs ys → map f xs ≡ map g ys
keys_of R f g same [] [] h = refl
keys_of R f g same [] (y ∷ ys) h = absurd h
keys_of R f g same (x ∷ xs) [] h = absurd h
keys_of R f g same (x ∷ xs) (y ∷ ys) h = let first = same x y h.0 in let rest = keys_of R f g same xs ys h.1 in λ i. first i ∷ rest i
