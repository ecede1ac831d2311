-- Rows in their order, each once.
use Rattle.std.proofs.Common.{◌≡◌, ◌∙◌, List, [], ◌∷◌, Contains, IsPermutation, get_or, inl, inr, length, subst, sym, ℕ}
use Rattle.std.specs.Prelude.{IsSorted, nat_eq}
use Rattle.std.specs.Cmp.{IsTotalOrder, nat_cmp_total}
use Rattle.std.specs.Cmp.Lexicographic.{bytes_decides, lists_equiv, lists_total, nat_list_eq_equiv, pointwise, pointwise_decides, slice_cmp}
use Rattle.std.specs.List.{AllByRecursion, dedup}
use Rattle.std.specs.List.Sorted.{IsStrictlySortedBy}
use Rattle.std.specs.Ordering.{nat_cmp}
use Rattle.std.specs.declared.cmp.Ordering.TheVariants.{Less}
use Rattle.std.proofs.lemmas.List.Kept.{Contains-dedup, Contains-from_dedup, IsStrictlySortedBy-dedup}
use Rattle.std.proofs.lemmas.List.Sorted.{Contains-permutation, IsPermutation-sym}
use Rattle.std.proofs.lemmas.Option.{get_or_from_slice_get}
use Rattle.members_dm.specs.Membership.{IsIn, IsRising}
use Rattle.members_dm.proofs.ElementsLemmas.{index_of_item, item_within}
use Rattle.tsv_dm.specs.Lines.{AreRising, IsBefore, Row, rows_tie}

in_from_contains : (a : Row) (xs : List Row) → Contains xs a → IsIn a xs
in_from_contains a xs h = subst (λ b. IsIn b xs) h.2 (item_within xs h.0 a h.1)

contains_from_in : (a : Row) (xs : List Row) → IsIn a xs → Contains xs a
contains_from_in a xs h = let k = index_of_item a xs h in (k.0, k.1, get_or_from_slice_get xs k.0 a a k.2)

all_before : (x : Row) (xs : List Row) → AllByRecursion (λ y. slice_cmp (slice_cmp nat_cmp) x y ≡ Less) xs → (y : Row) → IsIn y xs → IsBefore x y
unfolding IsBefore
all_before x [] h y k = absurd k
all_before x (z ∷ xs) h y (inl is) = subst (IsBefore x) is h.0
all_before x (z ∷ xs) h y (inr k) = all_before x xs h.1 y k

rising_from : (xs : List Row) → IsStrictlySortedBy (slice_cmp (slice_cmp nat_cmp)) xs → IsRising IsBefore xs
unfolding IsStrictlySortedBy
rising_from [] h = tt
rising_from (x ∷ xs) h = (all_before x xs h.0, rising_from xs h.1)

pub rising_rows : (rows sorted : List Row) → IsPermutation rows sorted → IsSorted (slice_cmp (slice_cmp nat_cmp)) sorted → AreRising rows (dedup (pointwise (pointwise nat_eq)) sorted)
rising_rows rows sorted moved is_sorted = record {
  rising = rising_from (dedup (pointwise (pointwise nat_eq)) sorted) (IsStrictlySortedBy-dedup (lists_total (lists_total nat_cmp_total)) rows_tie sorted is_sorted);
  same = λ a. (
    (λ h. in_from_contains a rows (Contains-permutation sorted rows a (IsPermutation-sym rows sorted moved) (Contains-from_dedup (pointwise (pointwise nat_eq)) sorted a (contains_from_in a (dedup (pointwise (pointwise nat_eq)) sorted) h)))),
    (λ h. in_from_contains a (dedup (pointwise (pointwise nat_eq)) sorted)
        (Contains-dedup (lists_equiv nat_list_eq_equiv) (λ x y e. (pointwise_decides bytes_decides x y).0 e) sorted a (Contains-permutation rows sorted a moved (contains_from_in a rows h)))),
  );
}
