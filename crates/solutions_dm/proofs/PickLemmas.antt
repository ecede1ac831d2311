-- Rows at some places.
use Rattle.std.proofs.Common.{◌≡◌, ◌≢◌, ℕ, ◌<◌, List, [], ◌∷◌, length, slice_index, Bool, true, false, not, cond, ◌||◌, ◌&&◌, ◌==◌, refl, sym, ap, ◌∙◌, subst, arith, ◌⊎◌, inl, inr, All, Contains, ◌↔◌, map, filter, IsPermutation}
use Rattle.std.specs.Str.{bytes_eq}
use Rattle.std.specs.List.{list_any}
use Rattle.std.proofs.lemmas.Slice.Eq.{bytes_eq-Decides}
use Rattle.std.proofs.lemmas.Bool.{cond-true, both_ways, or_parts, eqb-true, eq-eqb, cases_Bool}
use Rattle.std.proofs.lemmas.List.{get_or-map, length-map, get_or_default}
use Rattle.std.proofs.lemmas.List.Elements.{All-nil, All-cons, All-contains, All-filter, filter_passes, Contains-get_or}
use Rattle.solutions_dm.specs.declared.columns.Column.{Column}
use Rattle.solutions_dm.specs.Columns.{number_at, has_column, AreApart, HaveRows, compatible}
use Rattle.solutions_dm.specs.Differences.{IsLeft, both_bound, shares, blocks, unblocked}
use Rattle.solutions_dm.specs.Picks.{picked_column, IsPicked}
use Rattle.solutions_dm.specs.Table.{Table, IsTable, HasRow}
use Rattle.members_dm.specs.InOrder.{positions_below}
use Rattle.solutions_dm.proofs.ColumnLemmas.{number_at_none, compatible-true, true-compatible}
use Rattle.solutions_dm.proofs.ListLemmas.{Contains-filter, contains_here, contains_later, rows_contain}
use Rattle.members_dm.proofs.PositionLists.{positions_within}

pub column_filled : (cs : List Column) (n : ℕ) → HaveRows cs n → All (λ (c : Column). length c.numbers ≡ n) cs
column_filled [] n h = All-nil (λ (c : Column). length c.numbers ≡ n)
column_filled (c ∷ cs) n h = All-cons (λ (c : Column). length c.numbers ≡ n) c cs h.0 (column_filled cs n h.1)

module _ (places : List ℕ) where
  picked_number : (cs : List Column) (k : ℕ) (x : List ℕ) → k < length places → number_at (map (picked_column places) cs) k x ≡ number_at cs (slice_index places k) x
  picked_number [] k x l = refl
  picked_number (c ∷ cs) k x l = λ i. cond (bytes_eq c.name x) (get_or-map (slice_index c.numbers) places k 0 0 l i) (picked_number cs k x l i)

  picked_filled : (cs : List Column) → HaveRows (map (picked_column places) cs) (length places)
  picked_filled [] = tt
  picked_filled (c ∷ cs) = (length-map places (slice_index c.numbers), picked_filled cs)

  picked_names : (cs : List Column) (x : List ℕ) → has_column (map (picked_column places) cs) x ≡ has_column cs x
  picked_names [] x = refl
  picked_names (c ∷ cs) x = ap (λ b. bytes_eq c.name x || b) (picked_names cs x)

  picked_apart : (cs : List Column) → AreApart cs → AreApart (map (picked_column places) cs)
  picked_apart [] h = tt
  picked_apart (c ∷ cs) h = (picked_names cs c.name ∙ h.0, picked_apart cs h.1)

  pub picked_table : (cs : List Column) → AreApart cs → IsTable (record { columns = map (picked_column places) cs; rows = length places })
  picked_table cs h = record { filled = picked_filled cs; apart = picked_apart cs h }

  pub is_picked : (rows : Table) → IsPicked rows places (record { columns = map (picked_column places) rows.columns; rows = length places })
  is_picked rows = record { count = refl; each = λ k l x. picked_number rows.columns k x l }

  pub picked_rows : (rows s : Table) → IsPicked rows places s → (m : List ℕ → ℕ) → HasRow s m ↔ ((i : ℕ) × Contains places i × ((x : List ℕ) → m x ≡ number_at rows.columns i x))
  picked_rows rows s h m = (
    (λ r. let l : r.0 < length places = omega (arith, r.1, h.count) in
        (slice_index places r.0, Contains-get_or places r.0 0 l, (λ x. r.2 x ∙ h.each r.0 l x))),
    (λ r. (
      r.1.0,
      omega (arith, r.1.1, h.count),
      (λ x. r.2 x ∙ sym (h.each r.1.0 r.1.1 x ∙ ap (λ i. number_at rows.columns i x) (get_or_default places r.1.0 0 r.0 r.1.1 ∙ r.1.2))),
    )),
  )

-- some of all rows
module _ (n : ℕ) (rows : List ℕ) (permuted : IsPermutation (positions_below n) rows) (p : ℕ → Bool) where
  pub sifted_within : All (λ i. i < n) (filter p rows)
  sifted_within = All-filter p (λ i. i < n) rows (positions_within n rows permuted)

  pub sifted : (i : ℕ) → Contains (filter p rows) i ↔ ((i < n) × (p i ≡ true))
  sifted i = (
    (λ h. (All-contains (λ i. i < n) (filter p rows) i sifted_within h, All-contains (λ i. p i ≡ true) (filter p rows) i (filter_passes p rows) h)),
    (λ h. Contains-filter p i rows (rows_contain n rows permuted i h.0) h.1),
  )

-- ---- the mask

pub marked_is : (a : ℕ) → not (a == 0) ≡ true ↔ a ≢ 0
marked_is a = ((λ e z. both_ways _ (not_true (a == 0) e) (eq-eqb a 0 z)), (λ h. elim (cases_Bool (a == 0)) [ inl e ↦ absurd (h (eqb-true a 0 e)) | inr e ↦ ap not e ]))
  where
    not_true : (b : Bool) → not b ≡ true → b ≡ false
    not_true true e = cc e
    not_true false e = refl

pub kept_rows : (rows s : Table) (mask places : List ℕ) → IsPermutation (positions_below rows.rows) (positions_below rows.rows) → places ≡ filter (λ i. not (slice_index mask i == 0)) (positions_below rows.rows) → IsPicked rows places s → (m : List ℕ → ℕ) →
    HasRow s m ↔ ((i : ℕ) × (i < rows.rows) × (slice_index mask i ≢ 0) × ((x : List ℕ) → m x ≡ number_at rows.columns i x))
kept_rows rows s mask places same e h m =
    let law = picked_rows places rows s h m in
    let among : (i : ℕ) → Contains places i ↔ ((i < rows.rows) × (not (slice_index mask i == 0) ≡ true)) = λ i. subst (λ ps. Contains ps i ↔ ((i < rows.rows) × (not (slice_index mask i == 0) ≡ true))) (sym e) (sifted rows.rows (positions_below rows.rows) same (λ i. not (slice_index mask i == 0)) i) in (
      (λ r. let k = law.0 r in let a = (among k.0).0 k.1 in (k.0, a.0, (marked_is (slice_index mask k.0)).0 a.1, k.2)),
      (λ r. law.1 (r.0, (among r.0).1 (r.1, (marked_is (slice_index mask r.0)).1 r.2), r.3)),
    )

-- ---- the difference

both_bound-false : (a b : ℕ) → both_bound a b ≡ false → (a ≡ 0) ⊎ (b ≡ 0)
both_bound-false a b e = go (a == 0) (b == 0) refl refl e
  where
    go : (x y : Bool) → (a == 0) ≡ x → (b == 0) ≡ y → (not x && not y) ≡ false → (a ≡ 0) ⊎ (b ≡ 0)
    go true y e f h = inl (eqb-true a 0 e)
    go false true e f h = inr (eqb-true b 0 f)
    go false false e f h = cc h

false-both_bound : (a b : ℕ) → (a ≡ 0) ⊎ (b ≡ 0) → both_bound a b ≡ false
false-both_bound a b (inl e) = ap (λ z. not z && not (b == 0)) (eq-eqb a 0 e)
false-both_bound a b (inr e) = ap (λ z. not (a == 0) && not z) (eq-eqb b 0 e) ∙ and_none (not (a == 0))
  where
    and_none : (z : Bool) → (z && false) ≡ false
    and_none true = refl
    and_none false = refl

shares-false : (left : List Column) (i : ℕ) (right : List Column) (j : ℕ) → shares left i right j ≡ false → (x : List ℕ) → (number_at left i x ≡ 0) ⊎ (number_at right j x ≡ 0)
shares-false [] i right j e = λ x. inl refl
shares-false (c ∷ cs) i right j e = λ x.
    let k = or_parts (both_bound (slice_index c.numbers i) (number_at right j c.name)) (shares cs i right j) e in
    go x (bytes_eq c.name x) refl (both_bound-false _ _ k.0) (shares-false cs i right j k.1 x)
  where
    go : (x : List ℕ) (b : Bool) → bytes_eq c.name x ≡ b → (slice_index c.numbers i ≡ 0) ⊎ (number_at right j c.name ≡ 0) → (number_at cs i x ≡ 0) ⊎ (number_at right j x ≡ 0) →
        (cond b (slice_index c.numbers i) (number_at cs i x) ≡ 0) ⊎ (number_at right j x ≡ 0)
    go x true s first rest = subst (λ y. (slice_index c.numbers i ≡ 0) ⊎ (number_at right j y ≡ 0)) ((bytes_eq-Decides c.name x).0 s) first
    go x false s first rest = rest

false-shares : (left : List Column) (i : ℕ) (right : List Column) (j : ℕ) → AreApart left → ((x : List ℕ) → (number_at left i x ≡ 0) ⊎ (number_at right j x ≡ 0)) → shares left i right j ≡ false
false-shares [] i right j apart h = refl
false-shares (c ∷ cs) i right j apart h = λ q.
    false-both_bound (slice_index c.numbers i) (number_at right j c.name)
    (subst (λ n. (n ≡ 0) ⊎ (number_at right j c.name ≡ 0)) (cond-true _ _ _ ((bytes_eq-Decides c.name c.name).1 refl)) (h c.name)) q
    || false-shares cs i right j apart.1 (λ x. go x (bytes_eq c.name x) refl (h x)) q
  where
    go : (x : List ℕ) (b : Bool) → bytes_eq c.name x ≡ b → (cond b (slice_index c.numbers i) (number_at cs i x) ≡ 0) ⊎ (number_at right j x ≡ 0) → (number_at cs i x ≡ 0) ⊎ (number_at right j x ≡ 0)
    go x true s k = inl (number_at_none cs i x (ap (has_column cs) (sym ((bytes_eq-Decides c.name x).0 s)) ∙ apart.0))
    go x false s k = k

none_passes : (p : ℕ → Bool) (xs : List ℕ) → list_any p xs ≡ false → All (λ j. p j ≡ false) xs
none_passes p [] e = All-nil (λ j. p j ≡ false)
none_passes p (x ∷ xs) e = let k = or_parts (p x) (list_any p xs) e in All-cons (λ j. p j ≡ false) x xs k.0 (none_passes p xs k.1)

passes_none : (p : ℕ → Bool) (xs : List ℕ) → ((j : ℕ) → Contains xs j → p j ≡ false) → list_any p xs ≡ false
passes_none p [] h = refl
passes_none p (x ∷ xs) h = λ q. h x (contains_here x xs) q || passes_none p xs (λ j k. h j (contains_later x j xs k)) q

module _ (left right : Table) (rights : List ℕ) (others : IsPermutation (positions_below right.rows) rights) (apart : AreApart left.columns) (i : ℕ) where
  blocked : ℕ → Bool
  blocked j = blocks left.columns i right.columns j

  pub left_over : not (list_any (λ j. blocks left.columns i right.columns j) rights) ≡ true ↔ IsLeft right (number_at left.columns i)
  left_over = (
    (λ e j l c. let f = All-contains (λ j. blocks left.columns i right.columns j ≡ false) rights j (none_passes (λ j. blocks left.columns i right.columns j) rights (not_true _ e)) (rows_contain right.rows rights others j l) in
        shares-false left.columns i right.columns j (sym (ap (λ b. b && shares left.columns i right.columns j) (true-compatible left.columns i right.columns j apart c)) ∙ f)),
    (λ h. ap not (passes_none (λ j. blocks left.columns i right.columns j) rights (λ j m. elim (cases_Bool (compatible left.columns i right.columns j)) [
      | inl e ↦ ap (λ b. b && shares left.columns i right.columns j) e ∙ false-shares left.columns i right.columns j apart
          (h j (All-contains (λ j. j < right.rows) rights j (positions_within right.rows rights others) m) (compatible-true left.columns i right.columns j e))
      | inr e ↦ ap (λ b. b && shares left.columns i right.columns j) e
    ]))),
  )
    where
      not_true : (b : Bool) → not b ≡ true → b ≡ false
      not_true true e = cc e
      not_true false e = refl

pub minus_rows : (left right s : Table) (lefts rights places : List ℕ) → IsPermutation (positions_below left.rows) lefts → IsPermutation (positions_below right.rows) rights → AreApart left.columns →
    places ≡ unblocked left.columns right.columns lefts rights → IsPicked left places s → (m : List ℕ → ℕ) → HasRow s m ↔ (HasRow left m × IsLeft right m)
minus_rows left right s lefts rights places ls rs apart e h m =
    let law = picked_rows places left s h m in
    let q : ℕ → Bool = λ i. not (list_any (λ j. blocks left.columns i right.columns j) rights) in
    let among : (i : ℕ) → Contains places i ↔ ((i < left.rows) × (q i ≡ true)) = λ i. subst (λ ps. Contains ps i ↔ ((i < left.rows) × (q i ≡ true))) (sym e) (sifted left.rows lefts ls q i) in (
      (λ r. let k = law.0 r in let a = (among k.0).0 k.1 in
          ((k.0, a.0, k.2), other_mapping right (number_at left.columns k.0) m (λ x. sym (k.2 x)) ((left_over left right rights rs apart k.0).0 a.1))),
      (λ r. law.1 (r.0.0, (among r.0.0).1 (r.0.1, (left_over left right rights rs apart r.0.0).1 (other_mapping right m (number_at left.columns r.0.0) r.0.2 r.1)), r.0.2)),
    )
  where
    other_mapping : (right : Table) (m n : List ℕ → ℕ) → ((x : List ℕ) → m x ≡ n x) → IsLeft right m → IsLeft right n
    other_mapping right m n same h = λ j l c x. subst (λ a. (a ≡ 0) ⊎ (number_at right.columns j x ≡ 0)) (same x)
        (h j l (λ y. subst (λ a. a ≢ 0 → number_at right.columns j y ≢ 0 → a ≡ number_at right.columns j y) (sym (same y)) (c y)) x)
