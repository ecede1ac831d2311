-- Two lists are each other in another order exactly where they are as long and each item stands equally often in both.
use Rattle.std.proofs.Common.{◌≡◌, ◌↔◌, ◌∙◌, ℕ, zero, suc, ◌+◌, ◌<◌, List, [], ◌∷◌, ◌++◌, length, get_or, Some, Bool, true, false, cond, refl, sym, ap, subst, inl, inr, arith, All, Any, not}
use Rattle.std.specs.Prelude.{◌≢◌, ◌==◌, ◌&&◌, slice_get}
use Rattle.std.specs.List.{count_by, list_any}
use Rattle.std.specs.Bool.{Decides}
use Rattle.std.specs.List.Sorted.{IsPermutation}
use Rattle.std.proofs.lemmas.List.{length-append, nil_from_length, get_or_default}
use Rattle.std.proofs.lemmas.Bool.{cases_eq, both_ways, not-true}
use Rattle.std.proofs.lemmas.List.Sums.{sum_by-cons, sum_by-append}
use Rattle.std.proofs.lemmas.List.Sorted.{IsPermutation-refl, IsPermutation-cons, IsPermutation-trans, IsPermutation-sym, IsPermutation-middle, sum_by-IsPermutation, length_permutation}
use Rattle.members_dm.specs.Membership.{IsIn}
use Rattle.members_dm.specs.Elements.{HasSome}
use Rattle.members_dm.proofs.ElementsTests.{list_any-decides, stable_by_test}
use Rattle.std.proofs.lemmas.Bool.Decides.{Decides-not, Decides-eqb, Decides-or, not_from_Decides}
use Rattle.std.specs.Cmp.Lexicographic.{bytes_decides}
use Rattle.schema_dm.specs.declared.draft.TableDraft.{TableDraft}
use Rattle.schema_dm.specs.Naming.{Name, same_name}
use Rattle.schema_dm.specs.Drafts.{AnyUniqueList}
use Rattle.members_dm.proofs.AnyLemmas.{any_from_some, some_from_any}
use Rattle.members_dm.proofs.ElementsLemmas.{split_at_item, index_of_item}

module _ {X : Type 0} (same : X → X → Bool) (decides : (x y : X) → Decides (same x y) (x ≡ y)) where
  -- how often x stands in the list
  abbrev times : X → List X → ℕ
  times x xs = count_by (λ y. same y x) xs

  abbrev one_if : Bool → ℕ
  one_if b = cond b 1 0

  times-cons : (x y : X) (ys : List X) → times x (y ∷ ys) ≡ one_if (same y x) + times x ys
  times-cons x y ys = sum_by-cons (λ z. one_if (same z x)) y ys

  times-middle : (x y : X) (front back : List X) → times x (front ++ y ∷ back) ≡ one_if (same y x) + times x (front ++ back)
  times-middle x y front back =
      let whole : times x (front ++ y ∷ back) ≡ times x front + times x (y ∷ back) = sum_by-append (λ z. one_if (same z x)) front (y ∷ back) in
      let cut : times x (front ++ back) ≡ times x front + times x back = sum_by-append (λ z. one_if (same z x)) front back in
      let one : times x (y ∷ back) ≡ one_if (same y x) + times x back = times-cons x y back in
      omega arith

  once_at_head : (x : X) (xs : List X) → times x (x ∷ xs) ≡ 1 + times x xs
  once_at_head x xs = let one : same x x ≡ true = (decides x x).1 refl in times-cons x x xs ∙ ap (λ b. one_if b + times x xs) one

  item_that_counts : (x : X) (xs : List X) → 0 < times x xs → IsIn x xs
  item_that_counts x [] h = absurd (let none : 0 < 0 = h in omega arith)
  item_that_counts x (y ∷ ys) h = at (λ more. item_that_counts x ys more) (same y x) refl
    where
      at : (0 < times x ys → IsIn x ys) → (b : Bool) → same y x ≡ b → IsIn x (y ∷ ys)
      at rest true e = inl ((decides y x).0 e)
      at rest false e =
          let step : times x (y ∷ ys) ≡ one_if (same y x) + times x ys = times-cons x y ys in
          let none : one_if (same y x) ≡ 0 = ap one_if e in
          let more : 0 < times x ys = omega arith in
          inr (rest more)

  permutation_from_times : (xs ys : List X) → length xs ≡ length ys → ((x : X) → IsIn x xs → times x xs ≡ times x ys) → IsPermutation xs ys
  permutation_from_times [] ys long equal = rw (nil_from_length ys (sym long)) (IsPermutation-refl [])
  permutation_from_times (x ∷ xs) ys long equal =
      let first : times x (x ∷ xs) ≡ times x ys = equal x (inl refl) in
      let head : times x (x ∷ xs) ≡ 1 + times x xs = once_at_head x xs in
      let counts : 0 < times x ys = omega arith in
      let r : (front back : List X) × (ys ≡ front ++ x ∷ back) = split_at_item x ys (item_that_counts x ys counts) in
      let cut : length (r.0 ++ x ∷ r.1) ≡ length r.0 + length (x ∷ r.1) = length-append r.0 (x ∷ r.1) in
      let rest_cut : length (r.0 ++ r.1) ≡ length r.0 + length r.1 = length-append r.0 r.1 in
      let whole : length ys ≡ length (r.0 ++ x ∷ r.1) = ap length r.2 in
      let rest_long : length xs ≡ length (r.0 ++ r.1) = omega arith in
      let rest_equal : (y : X) → IsIn y xs → times y xs ≡ times y (r.0 ++ r.1) = λ y h.
      (let both : times y (x ∷ xs) ≡ times y ys = equal y (inr h) in
      let left : times y (x ∷ xs) ≡ one_if (same x y) + times y xs = times-cons y x xs in
      let right : times y (r.0 ++ x ∷ r.1) ≡ one_if (same x y) + times y (r.0 ++ r.1) = times-middle y x r.0 r.1 in
      let split : times y ys ≡ times y (r.0 ++ x ∷ r.1) = ap (times y) r.2 in
      omega arith) in
      subst (IsPermutation (x ∷ xs)) (sym r.2)
      (IsPermutation-trans _ _ _ (IsPermutation-cons x _ _ (permutation_from_times xs (r.0 ++ r.1) rest_long rest_equal)) (IsPermutation-sym _ _ (IsPermutation-middle r.0 x r.1)))

  pub reordered_by_times : (xs ys : List X) → length xs ≡ length ys → All (λ x. count_by (λ y. same y x) xs ≡ count_by (λ y. same y x) ys) xs ↔ IsPermutation xs ys
  reordered_by_times xs ys long = (
    (λ all. permutation_from_times xs ys long
        (λ x h. let found : (k : ℕ) × (k < length xs) × (slice_get xs k ≡ Some x) = index_of_item x xs h in
        subst (λ y. times y xs ≡ times y ys) (got xs found.0 x found.2) (all found.0 x found.1))),
    (λ moved k d below. sym (sum_by-IsPermutation (λ y. one_if (same y (get_or xs k d))) xs ys moved)),
  )
    where
      got : (zs : List X) (k : ℕ) (x : X) → slice_get zs k ≡ Some x → get_or zs k x ≡ x
      got [] k x e = refl
      got (z ∷ zs) zero x e = (let f : Some z ≡ Some x = e in cc)
      got (z ∷ zs) (suc k) x e = got zs k x e

  -- lists that are each other in another order behind one item are so without it
  pub permutation_rest : (x : X) (xs ys : List X) → IsPermutation (x ∷ xs) (x ∷ ys) → IsPermutation xs ys
  permutation_rest x xs ys moved =
      let longs : length (x ∷ ys) ≡ length (x ∷ xs) = length_permutation (x ∷ xs) (x ∷ ys) moved in
      (reordered_by_times xs ys (omega arith)).0 (λ k d below.
      let z = get_or xs k d in
      let all : times z (x ∷ ys) ≡ times z (x ∷ xs) = sum_by-IsPermutation (λ y. one_if (same y z)) (x ∷ xs) (x ∷ ys) moved in
      let left : times z (x ∷ xs) ≡ one_if (same x z) + times z xs = times-cons z x xs in
      let right : times z (x ∷ ys) ≡ one_if (same x z) + times z ys = times-cons z x ys in
      omega arith)

  -- what a test of all counts tells
  pub reordered_from_test : (xs ys : List X) (b : Bool) → length xs ≡ length ys
      → ((b ≡ true) ↔ Any (λ x. count_by (λ y. same y x) xs ≢ count_by (λ y. same y x) ys) xs) → (not b ≡ true) ↔ IsPermutation xs ys
  reordered_from_test xs ys b long test =
      let by_times = reordered_by_times xs ys long in (
        (λ h. by_times.0 (λ k d below. elim (cases_eq (times (get_or xs k d) xs) (times (get_or xs k d) ys)) [
          | inl equal ↦ equal
          | inr differ ↦ absurd (both_ways b (not-true b h) (test.1 (k, get_or xs k d, below, get_or_default xs k (get_or xs k d) d below, differ)))
        ])),
        (λ moved. at b (λ h. let found : (k : ℕ) × (x : X) × (k < length xs) × (get_or xs k x ≡ x) × (times x xs ≢ times x ys) = test.0 h in
            found.4 (subst (λ x. times x xs ≡ times x ys) found.3 (by_times.1 moved found.0 found.1 found.2)))),
      )
    where
      at : (c : Bool) → ¬ (c ≡ true) → not c ≡ true
      at true n = absurd (n refl)
      at false n = refl

-- ---- lists of names

-- whether a name stands more often in one of the lists
abbrev otherwise : List Name → List Name → Name → Bool
otherwise xs ys x = not (count_by (λ y. same_name y x) xs == count_by (λ y. same_name y x) ys)

any_otherwise : (xs ys : List Name) → Decides (list_any (otherwise xs ys) xs) (HasSome (λ x. count_by (λ y. same_name y x) xs ≢ count_by (λ y. same_name y x) ys) xs)
any_otherwise xs ys =
    list_any-decides (otherwise xs ys) (λ x. count_by (λ y. same_name y x) xs ≢ count_by (λ y. same_name y x) ys)
    (λ x. Decides-not _ (Decides-eqb (count_by (λ y. same_name y x) xs) (count_by (λ y. same_name y x) ys))) xs

reordered : List Name → List Name → Bool
reordered xs ys = (length xs == length ys) && not (list_any (otherwise xs ys) xs)

reordered_decides : (xs ys : List Name) → Decides (reordered xs ys) (IsPermutation xs ys)
unfolding reordered
reordered_decides xs ys = at (length xs == length ys) refl
  where
    at : (b : Bool) → (length xs == length ys) ≡ b → Decides (b && not (list_any (otherwise xs ys) xs)) (IsPermutation xs ys)
    at true e =
        let test = any_otherwise xs ys in
        let r = reordered_from_test same_name bytes_decides xs ys (list_any (otherwise xs ys) xs) ((Decides-eqb (length xs) (length ys)).0 e)
        ((λ h. any_from_some _ xs (test.0 h)), (λ h. test.1 (some_from_any _ xs h))) in
        (r.0, r.1)
    at false e = ((λ h. cc), (λ moved. absurd (not_from_Decides _ (Decides-eqb (length xs) (length ys)) e (sym (length_permutation xs ys moved)))))

-- that some unique list of the target is the names in another order holds where it isn't refuted
pub reordered_stable : (names : List Name) (target : TableDraft) → ¬ (¬ AnyUniqueList (IsPermutation names) target) → AnyUniqueList (IsPermutation names) target
reordered_stable names target h =
    let first = list_any-decides (reordered names) (IsPermutation names) (reordered_decides names) target.primaries in
    let second = list_any-decides (reordered names) (IsPermutation names) (reordered_decides names) target.uniques in
    elim (stable_by_test _ (Decides-or _ _ first second) (λ n. h (λ found. elim found [
      | inl a ↦ n (inl (some_from_any (IsPermutation names) target.primaries a))
      | inr b ↦ n (inr (some_from_any (IsPermutation names) target.uniques b))
    ]))) [
      | inl a ↦ inl (any_from_some (IsPermutation names) target.primaries a)
      | inr b ↦ inr (any_from_some (IsPermutation names) target.uniques b)
    ]
