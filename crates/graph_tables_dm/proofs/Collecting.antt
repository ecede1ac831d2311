-- Lists that are collected from others, lists in which each item stands once, and lists side by side.
use Rattle.std.proofs.Common.{◌≡◌, ◌⊎◌, List, [], ◌∷◌, Option, Some, None, map, refl, sym, ap, ◌∙◌, subst, inl, inr}
use Rattle.std.specs.List.{AllZip}
use Rattle.members_dm.specs.Membership.{IsIn, NoRepeats}
use Rattle.members_dm.proofs.MembershipLemmas.{IsIn-map, map-IsIn}
use Rattle.graph_tables_dm.proofs.Decisions.{Told, told_in}

-- ---- what a function gives of the items

abbrev with_option : {Y : Type 0} → Option Y → List Y → List Y
with_option None ys = ys
with_option (Some y) ys = y ∷ ys

pub collect : {X Y : Type 0} → (X → Option Y) → List X → List Y
collect f [] = []
collect f (x ∷ xs) = with_option (f x) (collect f xs)

in_option : {Y : Type 0} (o : Option Y) (ys : List Y) (y : Y) → IsIn y (with_option o ys) → (o ≡ Some y) ⊎ IsIn y ys
in_option None ys y i = inr i
in_option (Some z) ys y (inl e) = inl (ap Some e)
in_option (Some z) ys y (inr i) = inr i

to_first : {Y : Type 0} (o : Option Y) (ys : List Y) (y : Y) → o ≡ Some y → IsIn y (with_option o ys)
to_first None ys y e = absurd (let f : None ≡ Some y = e in cc)
to_first (Some z) ys y e = inl (let f : Some z ≡ Some y = e in cc)

to_rest : {Y : Type 0} (o : Option Y) (ys : List Y) (y : Y) → IsIn y ys → IsIn y (with_option o ys)
to_rest None ys y i = i
to_rest (Some z) ys y i = inr i

pub collected : {X Y : Type 0} (f : X → Option Y) (xs : List X) (y : Y) → IsIn y (collect f xs) → (x : X) × IsIn x xs × (f x ≡ Some y)
unfolding collect
collected f [] y i = absurd i
collected f (x ∷ xs) y i = elim (in_option (f x) (collect f xs) y i) [ inl e ↦ (x, inl refl, e) | inr k ↦ (let r = collected f xs y k in (r.0, inr r.1, r.2)) ]

pub to_collect : {X Y : Type 0} (f : X → Option Y) (xs : List X) (x : X) (y : Y) → IsIn x xs → f x ≡ Some y → IsIn y (collect f xs)
unfolding collect
to_collect f [] x y i e = absurd i
to_collect f (z ∷ xs) x y (inl s) e = to_first (f z) (collect f xs) y (ap f s ∙ e)
to_collect f (z ∷ xs) x y (inr i) e = to_rest (f z) (collect f xs) y (to_collect f xs x y i e)

-- where each item keeps its key, different keys stay different
pub collect_apart : {X Y Z : Type 0} (f : X → Option Y) (k : X → Z) (l : Y → Z) → ((x : X) (y : Y) → f x ≡ Some y → k x ≡ l y) → (xs : List X) → NoRepeats (map k xs) → NoRepeats (map l (collect f xs))
unfolding collect
collect_apart f k l same [] once = tt
collect_apart {X} {Y} {Z} f k l same (x ∷ xs) once = go (collect_apart f k l same xs once.1) (f x) refl
  where
    go : NoRepeats (map l (collect f xs)) → (o : Option Y) → f x ≡ o → NoRepeats (map l (with_option o (collect f xs)))
    go rest None e = rest
    go rest (Some y) e = (
      (λ i.
          let m = IsIn-map l (l y) (collect f xs) i in
          let h = collected f xs m.0 m.1 in
          once.0 (subst (λ z. IsIn z (map k xs)) (same h.0 m.0 h.2 ∙ m.2 ∙ sym (same x y e)) (map-IsIn k h.0 xs h.1))),
      rest,
    )

-- ---- each item once

module _ {X : Type 0} (told : (x y : X) → Told (x ≡ y)) where
  add_new : (x : X) (xs : List X) → Told (IsIn x xs) → List X
  add_new x xs (inl i) = xs
  add_new x xs (inr n) = x ∷ xs

  pub once : List X → List X
  once [] = []
  once (x ∷ xs) = add_new x (once xs) (told_in told x (once xs))

  new_apart : (x : X) (xs : List X) (t : Told (IsIn x xs)) → NoRepeats xs → NoRepeats (add_new x xs t)
  unfolding add_new
  new_apart x xs (inl i) h = h
  new_apart x xs (inr n) h = (n, h)

  from_new : (x : X) (xs : List X) (t : Told (IsIn x xs)) (y : X) → IsIn y (add_new x xs t) → (x ≡ y) ⊎ IsIn y xs
  unfolding add_new
  from_new x xs (inl i) y h = inr h
  from_new x xs (inr n) y h = h

  to_new : (x : X) (xs : List X) (t : Told (IsIn x xs)) (y : X) → (x ≡ y) ⊎ IsIn y xs → IsIn y (add_new x xs t)
  unfolding add_new
  to_new x xs (inl i) y (inl e) = subst (λ z. IsIn z xs) e i
  to_new x xs (inl i) y (inr k) = k
  to_new x xs (inr n) y h = h

  pub once_apart : (xs : List X) → NoRepeats (once xs)
  unfolding once
  once_apart [] = tt
  once_apart (x ∷ xs) = new_apart x (once xs) (told_in told x (once xs)) (once_apart xs)

  pub from_once : (xs : List X) (x : X) → IsIn x (once xs) → IsIn x xs
  unfolding once
  from_once [] x h = h
  from_once (y ∷ ys) x h = elim (from_new y (once ys) (told_in told y (once ys)) x h) [ inl e ↦ inl e | inr i ↦ inr (from_once ys x i) ]

  pub to_once : (xs : List X) (x : X) → IsIn x xs → IsIn x (once xs)
  unfolding once
  to_once [] x h = h
  to_once (y ∷ ys) x h = to_new y (once ys) (told_in told y (once ys)) x (elim h [ inl e ↦ inl e | inr i ↦ inr (to_once ys x i) ])

-- ---- lists side by side

pub zip_agree : {X Y Z : Type 0} (R : X → Y → Type 0) (f : X → Z) (h : Y → Z) (xs : List X) (ys : List Y) → ((x : X) (y : Y) → IsIn x xs → R x y → f x ≡ h y) → AllZip R xs ys → map f xs ≡ map h ys
zip_agree R f h [] [] same z = refl
zip_agree R f h [] (y ∷ ys) same z = absurd z
zip_agree R f h (x ∷ xs) [] same z = absurd z
zip_agree R f h (x ∷ xs) (y ∷ ys) same z =
    let first = same x y (inl refl) z.0 in
    let rest = zip_agree R f h xs ys (λ a b i. same a b (inr i)) z.1 in
    λ i. first i ∷ rest i

pub zip_weaker : {X Y : Type 0} (R S : X → Y → Type 0) (xs : List X) (ys : List Y) → ((x : X) (y : Y) → IsIn x xs → R x y → S x y) → AllZip R xs ys → AllZip S xs ys
zip_weaker R S [] [] weaker z = tt
zip_weaker R S [] (y ∷ ys) weaker z = absurd z
zip_weaker R S (x ∷ xs) [] weaker z = absurd z
zip_weaker R S (x ∷ xs) (y ∷ ys) weaker z = (weaker x y (inl refl) z.0, zip_weaker R S xs ys (λ a b i. weaker a b (inr i)) z.1)
