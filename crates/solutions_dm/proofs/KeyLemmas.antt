-- Keys of rows, and their order.
use Rattle.std.proofs.Common.{◌≡◌, ℕ, ◌<◌, List, [], ◌∷◌, true, false, refl, sym, ap, ◌∙◌, subst, All, IsPermutation, IsSortedBy, Ordering, Less, Equal, Greater, is_lt, nat_cmp, inl, inr}
use Rattle.std.specs.Cmp.{IsTotalOrder}
use Rattle.std.specs.Ordering.{ordering_then, ordering_reverse}
use Rattle.std.specs.Cmp.Lexicographic.{slice_cmp}
use Rattle.std.proofs.lemmas.Bool.{both_ways, cases_Bool}
use Rattle.std.proofs.lemmas.Cmp.{nat_list_cmp_total, tied_itself, alike_right}
use Rattle.std.proofs.lemmas.List.Elements.{All-head, All-tail}
use Rattle.std.proofs.lemmas.List.Sorted.{ranks_by, sorted_far, IsPermutation-map, All-permutation}
use Rattle.solutions_dm.specs.declared.columns.Column.{Column}
use Rattle.solutions_dm.specs.declared.keys.Keyed.{Keyed}
use Rattle.solutions_dm.specs.Columns.{number_at, compatible, Compatible, IsFilled}
use Rattle.solutions_dm.specs.Keys.{key_at, is_below, rows_of, ArePlaces, IsKeyed}
use Rattle.solutions_dm.proofs.ColumnLemmas.{compatible-true}

pub not_below_itself : (a : List ℕ) → is_below a a ≡ false
not_below_itself a = ap is_lt (tied_itself nat_list_cmp_total a)

-- a key stays below one that isn't below a higher one
pub below_higher : (a b c : List ℕ) → is_below a b ≡ true → is_below c b ≡ false → is_below a c ≡ true
below_higher a b c h k = go (slice_cmp nat_cmp c b) refl
  where
    o : IsTotalOrder (slice_cmp nat_cmp)
    o = nat_list_cmp_total

    less : (r : Ordering) → is_lt r ≡ true → r ≡ Less
    less Less e = refl
    less Equal e = cc e
    less Greater e = cc e

    go : (r : Ordering) → slice_cmp nat_cmp c b ≡ r → is_below a c ≡ true
    go Less e = absurd (both_ways _ k (ap is_lt e))
    go Equal e = ap is_lt (alike_right o c b a e ∙ less _ h)
    go Greater e = ap is_lt (o.trans a b c (less _ h) (o.antisymm b c ∙ ap ordering_reverse e))

-- compatible rows have one key, where each binds its variables
pub same_keys : (left : List Column) (m i : ℕ) (right : List Column) (n j : ℕ) (names : List (List ℕ)) → i < m → j < n → All (IsFilled left m) names → All (IsFilled right n) names →
    Compatible left i right j → key_at left names i ≡ key_at right names j
same_keys left m i right n j [] li lj f g h = refl
same_keys left m i right n j (x ∷ xs) li lj f g h =
    let first : number_at left i x ≡ number_at right j x = h x (All-head (IsFilled left m) x xs f i li) (All-head (IsFilled right n) x xs g j lj) in
    let rest = same_keys left m i right n j xs li lj (All-tail (IsFilled left m) x xs f) (All-tail (IsFilled right n) x xs g) h in
    λ q. first q ∷ rest q

module _ (left : List Column) (m i : ℕ) (right : List Column) (n j : ℕ) (names : List (List ℕ)) (li : i < m) (lj : j < n) (f : All (IsFilled left m) names) (g : All (IsFilled right n) names) where
  one_key : compatible left i right j ≡ true → key_at left names i ≡ key_at right names j
  one_key e = same_keys left m i right n j names li lj f g (compatible-true left i right j e)

  pub lower_is_apart : is_below (key_at right names j) (key_at left names i) ≡ true → compatible left i right j ≡ false
  lower_is_apart h = elim (cases_Bool (compatible left i right j)) [
    | inl e ↦ absurd (both_ways _ (subst (λ k. is_below (key_at right names j) k ≡ false) (sym (one_key e)) (not_below_itself (key_at right names j))) h)
    | inr e ↦ e
  ]

  pub higher_is_apart : is_below (key_at left names i) (key_at right names j) ≡ true → compatible left i right j ≡ false
  higher_is_apart h = elim (cases_Bool (compatible left i right j)) [
    | inl e ↦ absurd (both_ways _ (subst (λ k. is_below (key_at left names i) k ≡ false) (one_key e) (not_below_itself (key_at left names i))) h)
    | inr e ↦ e
  ]

-- what a sort by key and row leaves
not_lt_then : (r s : Ordering) → is_lt (ordering_then r s) ≡ false → is_lt r ≡ false
not_lt_then Less s e = e
not_lt_then Equal s e = refl
not_lt_then Greater s e = refl

pub keyed_from_sort : (key : ℕ → List ℕ) (n : ℕ) (before after : List Keyed) → ArePlaces key n before → IsPermutation before after →
    IsSortedBy (λ (a b : Keyed). is_lt (ordering_then (slice_cmp nat_cmp a.key.items b.key.items) (nat_cmp a.row b.row))) after → IsKeyed key n after
keyed_from_sort key n before after made moved sorted = record {
  permuted = subst (λ rows. IsPermutation rows (rows_of after)) made.rows (IsPermutation-map (λ (k : Keyed). k.row) before after moved);
  keys = All-permutation (λ (k : Keyed). k.key.items ≡ key k.row) before after moved made.keys;
  rising = λ i j d l k. sorted_far (λ (a b : Keyed). is_below a.key.items b.key.items) (ranks_by nat_list_cmp_total (λ (k : Keyed). k.key.items)) after
      (λ x e a b. not_lt_then _ _ (sorted x e a b)) i j d l k;
}
