-- Lists that are made level by level stand in rising order, and what stands in them.
use Rattle.std.proofs.Common.{◌≡◌, ◌∙◌, refl, sym, ap, subst, ◌⊎◌, inl, inr, ℕ, zero, suc, ◌+◌, ◌<◌, List, [], ◌∷◌, ◌++◌, map, arith, add-one}
use Rattle.std.proofs.lemmas.List.{append-nil}
use Rattle.std.proofs.lemmas.Bool.Decides.{eqb_tells}
use Rattle.std.proofs.Common.{eqb, true, false, append_assoc}
use Rattle.members_dm.specs.Membership.{IsIn, IsRising}
use Rattle.members_dm.specs.Places.{Place, IsEarlier, StandsEarlier, IsListing, items_of, one_item, under, levels}
use Rattle.members_dm.proofs.MembershipLemmas.{IsIn-front, IsIn-back, IsIn-append, IsIn-map, map-IsIn, IsRising-append, rising_unique}

-- ---- one order

pub earlier_one_way : (p q : Place) → IsEarlier p q → ¬ IsEarlier q p
earlier_one_way [] q h k = h
earlier_one_way (a ∷ p) [] h k = h
earlier_one_way (a ∷ p) (b ∷ q) (inl h) (inl k) = omega arith
earlier_one_way (a ∷ p) (b ∷ q) (inl h) (inr k) = let same = k.0 in omega arith
earlier_one_way (a ∷ p) (b ∷ q) (inr h) (inl k) = let same = h.0 in omega arith
earlier_one_way (a ∷ p) (b ∷ q) (inr h) (inr k) = earlier_one_way p q h.1 k.1

-- one list alone has exactly these items in order
pub listing_unique : {X : Type 0} (StandsAt : Place → X → Type 0) (xs ys : List X) → IsListing StandsAt xs → IsListing StandsAt ys → xs ≡ ys
listing_unique {X} StandsAt xs ys a b =
    let same : a.placed ≡ b.placed = rising_unique {X = Place × X} StandsEarlier (λ p q. earlier_one_way p.0 q.0) a.placed b.placed a.rising b.rising
    (λ p. ((λ h. (b.exact p.0 p.1).1 ((a.exact p.0 p.1).0 h)), (λ h. (a.exact p.0 p.1).1 ((b.exact p.0 p.1).0 h)))) in
    a.items ∙ ap (map (λ (p : Place × X). p.1)) same ∙ sym b.items

module _ {X : Type 0} where
  -- ---- one item

  pub rising-one : (x : X) → IsRising {X = Place × X} StandsEarlier (one_item x)
  rising-one x = ((λ y h. absurd h), tt)

  pub IsIn-one : (x y : X) (p : Place) → IsIn {X = Place × X} (p, x) (one_item y) → (p ≡ []) × (x ≡ y)
  IsIn-one x y p (inl is) = (ap (λ (a : Place × X). a.0) (sym is), ap (λ (a : Place × X). a.1) (sym is))
  IsIn-one x y p (inr h) = absurd h

  -- ---- one level

  pub rising-under : (i : ℕ) (placed : List (Place × X)) → IsRising {X = Place × X} StandsEarlier placed → IsRising {X = Place × X} StandsEarlier (under i placed)
  rising-under i [] rise = tt
  rising-under i (a ∷ placed) rise = (
    (λ y h.
        let from = IsIn-map (λ (b : Place × X). (i ∷ b.0, b.1)) y placed h in
        let earlier : IsEarlier (i ∷ a.0) (i ∷ from.0.0) = inr (refl, rise.0 from.0 from.1) in
        subst (λ (z : Place × X). StandsEarlier (i ∷ a.0, a.1) z) from.2 earlier),
    rising-under i placed rise.1,
  )

  pub under-IsIn : (i : ℕ) (placed : List (Place × X)) (p : Place) (x : X) → IsIn {X = Place × X} (p, x) placed → IsIn {X = Place × X} (i ∷ p, x) (under i placed)
  under-IsIn i placed p x h = map-IsIn (λ (a : Place × X). (i ∷ a.0, a.1)) (p, x) placed h

  pub IsIn-under : (i : ℕ) (placed : List (Place × X)) (p : Place) (x : X) → IsIn {X = Place × X} (p, x) (under i placed) → (q : Place) × (p ≡ i ∷ q) × IsIn {X = Place × X} (q, x) placed
  IsIn-under i placed p x h =
      let from = IsIn-map (λ (a : Place × X). (i ∷ a.0, a.1)) (p, x) placed h in (
        from.0.0,
        ap (λ (a : Place × X). a.0) (sym from.2),
        subst (λ (y : X). IsIn {X = Place × X} (from.0.0, y) placed) (ap (λ (a : Place × X). a.1) from.2) from.1,
      )

  -- ---- all levels

  pub levels-IsIn : (n : ℕ) (level : ℕ → List (Place × X)) (k : ℕ) (p : Place) (x : X) → k < n → IsIn {X = Place × X} (p, x) (level k) → IsIn {X = Place × X} (k ∷ p, x) (levels n level)
  unfolding levels
  levels-IsIn zero level k p x below h = absurd (omega arith)
  levels-IsIn (suc n) level k p x below h = go (eqb_tells k n) (λ lower. levels-IsIn n level k p x lower h)
    where
      go : ((eqb k n ≡ true) × (k ≡ n)) ⊎ ((eqb k n ≡ false) × (k ≡ n → ⊥)) → (k < n → IsIn {X = Place × X} (k ∷ p, x) (levels n level)) → IsIn {X = Place × X} (k ∷ p, x) (levels n level ++ under n (level n))
      go (inl same) earlier =
          IsIn-back (k ∷ p, x) (levels n level) (under n (level n))
          (subst (λ (j : ℕ). IsIn {X = Place × X} (k ∷ p, x) (under j (level j))) same.1 (under-IsIn k (level k) p x h))
      go (inr other) earlier =
          let apart : k ≡ n → ⊥ = other.1 in
          let lower : k < n = omega arith in
          IsIn-front (k ∷ p, x) (levels n level) (under n (level n)) (earlier lower)

  pub IsIn-levels : (n : ℕ) (level : ℕ → List (Place × X)) (p : Place) (x : X) → IsIn {X = Place × X} (p, x) (levels n level) →
      (k : ℕ) × (k < n) × ((q : Place) × (p ≡ k ∷ q) × IsIn {X = Place × X} (q, x) (level k))
  unfolding levels
  IsIn-levels zero level p x h = absurd h
  IsIn-levels (suc n) level p x h = elim (IsIn-append (p, x) (levels n level) (under n (level n)) h) [
    | inl front ↦ let from = IsIn-levels n level p x front in (from.0, omega (arith, from.1), from.2)
    | inr back ↦ (n, omega arith, IsIn-under n (level n) p x back)
  ]

  pub rising-levels : (n : ℕ) (level : ℕ → List (Place × X)) → ((k : ℕ) → IsRising {X = Place × X} StandsEarlier (level k)) → IsRising {X = Place × X} StandsEarlier (levels n level)
  unfolding levels
  rising-levels zero level rise = tt
  rising-levels (suc n) level rise =
      IsRising-append {X = Place × X} StandsEarlier (levels n level) (under n (level n)) (rising-levels n level rise) (rising-under n (level n) (rise n))
      (λ a b h k.
      let from = IsIn-levels n level a.0 a.1 h in
      let last = IsIn-under n (level n) b.0 b.1 k in
      let earlier : IsEarlier (from.0 ∷ from.2.0) (n ∷ last.0) = inl from.1 in
      subst (λ (p : Place). IsEarlier p b.0) (sym from.2.1) (subst (λ (q : Place). IsEarlier (from.0 ∷ from.2.0) q) (sym last.1) earlier))

  -- ---- the items alone

  pub items_of-append : (ps qs : List (Place × X)) → items_of (ps ++ qs) ≡ items_of ps ++ items_of qs
  unfolding items_of
  items_of-append [] qs = refl
  items_of-append (p ∷ ps) qs = ap (λ xs. p.1 ∷ xs) (items_of-append ps qs)

  pub items_of-under : (i : ℕ) (placed : List (Place × X)) → items_of (under i placed) ≡ items_of placed
  unfolding items_of
  items_of-under i [] = refl
  items_of-under i (p ∷ placed) = ap (λ xs. p.1 ∷ xs) (items_of-under i placed)

  pub items_of-one : (x : X) → items_of (one_item x) ≡ x ∷ []
  unfolding items_of
  items_of-one x = refl

  pub items_of-none : items_of {X = X} [] ≡ []
  unfolding items_of
  items_of-none = refl

  pub items_of-no_level : (level : ℕ → List (Place × X)) → items_of (levels 0 level) ≡ []
  unfolding items_of levels
  items_of-no_level level = refl

  -- a turn of the loop that makes the levels
  pub items_of-level : (k : ℕ) (level : ℕ → List (Place × X)) → items_of (levels (k + 1) level) ≡ items_of (levels k level) ++ items_of (level k)
  unfolding levels
  items_of-level k level =
      rw add-one (items_of-append (levels k level) (under k (level k)) ∙ ap (λ xs. items_of (levels k level) ++ xs) (items_of-under k (level k)))

  -- two levels
  pub items_of-two : (level : ℕ → List (Place × X)) → items_of (levels 2 level) ≡ items_of (level 0) ++ items_of (level 1)
  items_of-two level =
      items_of-level 1 level
      ∙ ap (λ xs. xs ++ items_of (level 1)) (items_of-level 0 level ∙ ap (λ xs. xs ++ items_of (level 0)) (items_of-no_level level))

  -- what a loop has made by its turn k is a front of the whole
  pub items_of-front : (n k : ℕ) (level : ℕ → List (Place × X)) → k < n → (rest : List X) × (items_of (levels n level) ≡ items_of (levels k level) ++ (items_of (level k) ++ rest))
  unfolding levels items_of
  items_of-front zero k level below = absurd (omega arith)
  items_of-front (suc n) k level below = go (eqb_tells k n) (λ lower. items_of-front n k level lower)
    where
      go : ((eqb k n ≡ true) × (k ≡ n)) ⊎ ((eqb k n ≡ false) × (k ≡ n → ⊥)) →
          (k < n → (rest : List X) × (items_of (levels n level) ≡ items_of (levels k level) ++ (items_of (level k) ++ rest))) →
          (rest : List X) × (items_of (levels n level ++ under n (level n)) ≡ items_of (levels k level) ++ (items_of (level k) ++ rest))
      go (inl same) earlier = (
        [],
        items_of-append (levels n level) (under n (level n))
            ∙ ap (λ xs. items_of (levels n level) ++ xs) (items_of-under n (level n) ∙ sym (append-nil (items_of (level n))))
            ∙ ap (λ j. items_of (levels j level) ++ (items_of (level j) ++ [])) (sym same.1),
      )
      go (inr other) earlier =
          let apart : k ≡ n → ⊥ = other.1 in
          let lower : k < n = omega arith in
          let from = earlier lower in (
            from.0 ++ items_of (under n (level n)),
            items_of-append (levels n level) (under n (level n))
                ∙ ap (λ xs. xs ++ items_of (under n (level n))) from.1
                ∙ regroup (items_of (levels k level)) (items_of (level k)) from.0 (items_of (under n (level n))),
          )
        where
          regroup : (a b c d : List X) → (a ++ (b ++ c)) ++ d ≡ a ++ (b ++ (c ++ d))
          regroup a b c d = simp append_assoc
