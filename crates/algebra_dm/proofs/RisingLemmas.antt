-- Lists of names in the order of their bytes, each name once.
use Rattle.std.proofs.Common.{◌≡◌, ◌≢◌, ◌∙◌, ◌⊎◌, ◌↔◌, ℕ, zero, suc, ◌<◌, ◌+◌, List, [], ◌∷◌, ◌++◌, Bool, true, false, refl, sym, ap, subst, inl, inr, arith, get_or, take, length, Contains, IsPermutation}
use Rattle.std.specs.Prelude.{slice_get, IsSorted, encode_utf8_all}
use Rattle.std.specs.Cmp.{IsTotalOrder, nat_cmp_total}
use Rattle.std.specs.Cmp.Lexicographic.{bytes_decides, lists_total, nat_list_eq_equiv, on_texts, slice_cmp}
use Rattle.std.specs.Ordering.{nat_cmp, ordering_reverse}
use Rattle.std.specs.declared.cmp.Ordering.TheVariants.{Less}
use Rattle.std.specs.List.{dedup, AllByRecursion}
use Rattle.std.specs.List.Sorted.{IsStrictlySortedBy}
use Rattle.std.proofs.lemmas.List.{take_more}
use Rattle.std.proofs.lemmas.List.Kept.{IsStrictlySortedBy-dedup, Contains-dedup, Contains-from_dedup}
use Rattle.std.proofs.lemmas.List.Sorted.{Contains-permutation, IsPermutation-sym}
use Rattle.std.proofs.lemmas.Option.{slice_get-get_or, get_or_from_slice_get}
use Rattle.members_dm.specs.Membership.{IsIn, IsRising}
use Rattle.members_dm.proofs.ElementsLemmas.{index_of_item, item_within}
use Rattle.members_dm.proofs.MembershipLemmas.{IsIn-append, IsIn-back, IsIn-front, rising_unique}
use Rattle.value_dm.specs.Order.{byte_cmp, byte_cmp_ties}
use Rattle.schema_dm.specs.Naming.{Name, same_name}
use Rattle.schema_dm.specs.Shapes.{IsBefore}
use Rattle.algebra_dm.specs.Attributes.{Lists}
use Rattle.algebra_dm.specs.Checking.{AreThose}

pub in_from_contains : (a : Name) (xs : List Name) → Contains xs a → IsIn a xs
in_from_contains a xs h = subst (λ b. IsIn b xs) h.2 (item_within xs h.0 a h.1)

pub contains_from_in : (a : Name) (xs : List Name) → IsIn a xs → Contains xs a
contains_from_in a xs h = let k = index_of_item a xs h in (k.0, k.1, get_or_from_slice_get xs k.0 a a k.2)

-- ---- sorting

pub names_total : IsTotalOrder byte_cmp
names_total = on_texts encode_utf8_all

all_before : (x : Name) (xs : List Name) → AllByRecursion (λ y. byte_cmp x y ≡ Less) xs → (y : Name) → IsIn y xs → IsBefore x y
unfolding IsBefore
all_before x [] h y k = absurd k
all_before x (z ∷ xs) h y (inl is) = subst (IsBefore x) is h.0
all_before x (z ∷ xs) h y (inr k) = all_before x xs h.1 y k

rising_from : (xs : List Name) → IsStrictlySortedBy byte_cmp xs → IsRising IsBefore xs
unfolding IsStrictlySortedBy
rising_from [] h = tt
rising_from (x ∷ xs) h = (all_before x xs h.0, rising_from xs h.1)

pub lists_sorted : (xs ys : List Name) → IsPermutation xs ys → IsSorted byte_cmp ys → Lists (λ a. IsIn a xs) (dedup same_name ys)
lists_sorted xs ys moved sorted = record {
  rising = rising_from (dedup same_name ys) (IsStrictlySortedBy-dedup names_total byte_cmp_ties ys sorted);
  exact = λ a. (
    (λ h. in_from_contains a xs (Contains-permutation ys xs a (IsPermutation-sym xs ys moved) (Contains-from_dedup same_name ys a (contains_from_in a (dedup same_name ys) h)))),
    (λ h. in_from_contains a (dedup same_name ys)
        (Contains-dedup nat_list_eq_equiv (λ x y e. (bytes_decides x y).0 e) ys a (Contains-permutation xs ys a moved (contains_from_in a xs h)))),
  );
}

-- ---- one list for each property

pub one_way : (x y : Name) → IsBefore x y → ¬ IsBefore y x
unfolding IsBefore
one_way x y a b =
    let o : IsTotalOrder (slice_cmp nat_cmp) = lists_total nat_cmp_total in
    let s : Less ≡ ordering_reverse Less = sym a ∙ o.antisymm (encode_utf8_all x) (encode_utf8_all y) ∙ ap ordering_reverse b in cc

pub lists_unique : (P : Name → Type 0) (xs ys : List Name) → Lists P xs → Lists P ys → xs ≡ ys
lists_unique P xs ys h k = rising_unique IsBefore one_way xs ys h.rising k.rising (λ a. ((λ i. (k.exact a).1 ((h.exact a).0 i)), (λ i. (h.exact a).1 ((k.exact a).0 i))))

pub lists_along : (P Q : Name → Type 0) → ((a : Name) → P a ↔ Q a) → (xs : List Name) → Lists P xs → Lists Q xs
lists_along P Q same xs h = record { rising = h.rising; exact = λ a. ((λ i. (same a).0 ((h.exact a).0 i)), (λ q. (h.exact a).1 ((same a).1 q))) }

pub lists_items : (P : Name → Type 0) (xs ys : List Name) → ((a : Name) → IsIn a xs ↔ P a) → Lists (λ a. IsIn a xs) ys → Lists P ys
lists_items P xs ys same h = lists_along (λ a. IsIn a xs) P same ys h

pub name_cases : (x y : Name) → (x ≡ y) ⊎ (x ≢ y)
name_cases x y = go (same_name x y) refl
  where
    go : (b : Bool) → same_name x y ≡ b → (x ≡ y) ⊎ (x ≢ y)
    go true e = inl ((bytes_decides x y).0 e)
    go false e = inr (λ is. (let yes = (bytes_decides x y).1 is in cc))

-- ---- items one by one

pub append_iff : (xs ys : List Name) (a : Name) → IsIn a (xs ++ ys) ↔ (IsIn a xs ⊎ IsIn a ys)
append_iff xs ys a = (IsIn-append a xs ys, (λ h. elim h [ inl k ↦ IsIn-front a xs ys k | inr k ↦ IsIn-back a xs ys k ]))

pub push_iff : (xs : List Name) (x a : Name) → IsIn a (xs ++ x ∷ []) ↔ (IsIn a xs ⊎ (x ≡ a))
push_iff xs x a = (
  (λ h. elim (IsIn-append a xs (x ∷ []) h) [ inl k ↦ inl k | inr k ↦ elim k [ inl is ↦ inr is | inr n ↦ absurd n ] ]),
  (λ h. elim h [ inl k ↦ IsIn-front a xs (x ∷ []) k | inr is ↦ IsIn-back a xs (x ∷ []) (inl is) ]),
)

module _ (P : Name → Type 0) (xs made : List Name) (i : ℕ) (x : Name) (below : i < length xs) (is : x ≡ get_or xs i x) (so_far : AreThose P (take i xs) made) where
  more : take (i + 1) xs ≡ take i xs ++ x ∷ []
  more = take_more xs i x below ∙ ap (λ y. take i xs ++ y ∷ []) (sym is)

  pub those_more : P x → AreThose P (take (i + 1) xs) (made ++ x ∷ [])
  those_more p a = (
    (λ h. elim ((push_iff made x a).0 h) [
      | inl k ↦ (let old = (so_far a).0 k in (subst (λ ys. IsIn a ys) (sym more) (IsIn-front a (take i xs) (x ∷ []) old.0), old.1))
      | inr e ↦ (subst (λ ys. IsIn a ys) (sym more) (IsIn-back a (take i xs) (x ∷ []) (inl e)), subst P e p)
    ]),
    (λ h. elim ((push_iff (take i xs) x a).0 (subst (λ ys. IsIn a ys) more h.0)) [
      | inl k ↦ (push_iff made x a).1 (inl ((so_far a).1 (k, h.1)))
      | inr e ↦ (push_iff made x a).1 (inr e)
    ]),
  )

  pub those_less : ¬ P x → AreThose P (take (i + 1) xs) made
  those_less n a = (
    (λ h. let old = (so_far a).0 h in (subst (λ ys. IsIn a ys) (sym more) (IsIn-front a (take i xs) (x ∷ []) old.0), old.1)),
    (λ h. elim ((push_iff (take i xs) x a).0 (subst (λ ys. IsIn a ys) more h.0)) [
      | inl k ↦ (so_far a).1 (k, h.1)
      | inr e ↦ absurd (n (subst P (sym e) h.1))
    ]),
  )

-- ---- a new name

module _ (from to : Name) (names kept : List Name) (those : AreThose (λ a. (from ≢ a) × (to ≢ a)) names kept) where
  pub renamed_there : IsIn from names → (a : Name) → IsIn a (kept ++ to ∷ []) ↔ (((to ≡ a) × IsIn from names) ⊎ (IsIn a names × (from ≢ a) × (to ≢ a)))
  renamed_there i a = (
    (λ h. elim ((push_iff kept to a).0 h) [ inl k ↦ (let o = (those a).0 k in inr (o.0, o.1.0, o.1.1)) | inr e ↦ inl (e, i) ]),
    (λ h. (push_iff kept to a).1 (elim h [ inl e ↦ inr e.0 | inr k ↦ inl ((those a).1 (k.0, (k.1, k.2))) ])),
  )

  pub renamed_absent : ¬ IsIn from names → (a : Name) → IsIn a kept ↔ (((to ≡ a) × IsIn from names) ⊎ (IsIn a names × (from ≢ a) × (to ≢ a)))
  renamed_absent n a = (
    (λ h. (let o = (those a).0 h in inr (o.0, o.1.0, o.1.1))),
    (λ h. elim h [ inl e ↦ absurd (n e.1) | inr k ↦ (those a).1 (k.0, (k.1, k.2)) ]),
  )
