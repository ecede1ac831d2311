-- Lists of the same names are one list in the order of the names.
use Rattle.std.proofs.Common.{◌≡◌, ◌∙◌, ◌⊎◌, ◌↔◌, ℕ, zero, suc, ◌+◌, ◌<◌, List, [], ◌∷◌, ◌++◌, length, get_or, take, Bool, None, Some, true, false, refl, sym, ap, subst, inl, inr, arith, Any, is_lt, Equal, IsPermutation, add-one}
use Rattle.std.specs.Prelude.{slice_get, IsSorted, encode_utf8_all}
use Rattle.std.specs.Cmp.{IsTotalOrder, IsStrictWeakOrder}
use Rattle.std.specs.Cmp.Lexicographic.{bytes_decides, on_texts}
use Rattle.std.specs.List.{AllZip}
use Rattle.std.proofs.lemmas.List.{nil_from_length, take_more}
use Rattle.std.proofs.lemmas.List.Elements.{AllZip-push}
use Rattle.std.proofs.lemmas.List.Sorted.{All-permutation, IsPermutation-sym, IsPermutation-trans, length_permutation, ranks_by, sorted_far}
use Rattle.members_dm.specs.Elements.{HasSome}
use Rattle.members_dm.specs.InOrder.{IsFirstPlace}
use Rattle.members_dm.proofs.AnyLemmas.{Any-head, Any-tail, some_from_any}
use Rattle.members_dm.proofs.OrderLemmas.{not_lt_both, ties_from_eq}
use Rattle.value_dm.specs.Order.{byte_cmp, byte_cmp_ties}
use Rattle.schema_dm.specs.Indexed.{IsSortedForm, AreSortedForms}
use Rattle.schema_dm.specs.Naming.{Name, same_name}
use Rattle.schema_dm.proofs.Reordered.{permutation_rest}

names_total : IsTotalOrder byte_cmp
names_total = on_texts encode_utf8_all

one_name : (x y : Name) → byte_cmp x y ≡ Equal → x ≡ y
one_name = ties_from_eq same_name byte_cmp byte_cmp_ties bytes_decides

names_weak : IsStrictWeakOrder (λ (x y : Name). is_lt (byte_cmp x y))
names_weak = ranks_by names_total (λ (x : Name). x)

-- no name of a sorted list is before its first
first_least : (x : Name) (xs ys : List Name) → IsSorted byte_cmp (x ∷ xs) → IsPermutation (x ∷ xs) ys → (y : Name) (rest : List Name) → ys ≡ y ∷ rest → is_lt (byte_cmp y x) ≡ false
first_least x xs ys sorted moved y rest is =
    subst (λ (zs : List Name). (k : ℕ) (d : Name) → k < length zs → is_lt (byte_cmp (get_or zs k d) x) ≡ false) is
    (All-permutation (λ z. is_lt (byte_cmp z x) ≡ false) (x ∷ xs) ys moved (λ k d l. sorted_far (λ (a b : Name). is_lt (byte_cmp a b)) names_weak (x ∷ xs) sorted 0 k d (omega arith) l)) 0 y (omega arith)

sorted_rest : (x : Name) (xs : List Name) → IsSorted byte_cmp (x ∷ xs) → IsSorted byte_cmp xs
sorted_rest x xs sorted k d l m = rw add-one (sorted_far (λ (a b : Name). is_lt (byte_cmp a b)) names_weak (x ∷ xs) sorted (suc k) (suc (suc k)) d (omega arith) (omega arith))

pub sorted_unique : (xs ys : List Name) → IsPermutation xs ys → IsSorted byte_cmp xs → IsSorted byte_cmp ys → xs ≡ ys
sorted_unique [] ys moved a b = sym (nil_from_length ys (length_permutation [] ys moved))
sorted_unique (x ∷ xs) [] moved a b = absurd (let none : length {A = Name} [] ≡ length (x ∷ xs) = length_permutation (x ∷ xs) [] moved in omega arith)
sorted_unique (x ∷ xs) (y ∷ ys) moved a b =
    let up : is_lt (byte_cmp y x) ≡ false = first_least x xs (y ∷ ys) a moved y ys refl in
    let down : is_lt (byte_cmp x y) ≡ false = first_least y ys (x ∷ xs) b (IsPermutation-sym (x ∷ xs) (y ∷ ys) moved) x xs refl in
    let one : x ≡ y = one_name x y (not_lt_both (byte_cmp x y) down (ap is_lt (sym (names_total.antisymm y x)) ∙ up)) in
    let rest : IsPermutation xs ys = permutation_rest same_name bytes_decides x xs ys (subst (λ z. IsPermutation (x ∷ xs) (z ∷ ys)) (sym one) moved) in
    ap (λ z. z ∷ xs) one ∙ ap (λ zs. y ∷ zs) (sorted_unique xs ys rest (sorted_rest x xs a) (sorted_rest y ys b))

-- ---- the forms of several lists

pub forms_more : (lists forms new : List (List Name)) (i : ℕ) (names form : List Name) → i < length lists → names ≡ get_or lists i names → AreSortedForms (take i lists) forms → IsSortedForm names form
    → new ≡ forms ++ form ∷ [] → AreSortedForms (take (i + 1) lists) new
forms_more lists forms new i names form below is so_far made step =
    subst (λ zs. AllZip IsSortedForm zs new) (ap (λ z. take i lists ++ z ∷ []) is ∙ sym (take_more lists i names below))
    (subst (λ zs. AllZip IsSortedForm (take i lists ++ names ∷ []) zs) (sym step) (AllZip-push IsSortedForm (take i lists) forms names form so_far made))

module _ (names sorted : List Name) (form : IsSortedForm names sorted) where
  pub reordered_found : (lists forms : List (List Name)) (k : ℕ) → AreSortedForms lists forms → slice_get forms k ≡ Some sorted → Any (IsPermutation names) lists
  reordered_found [] [] k forms is = absurd (cc)
  reordered_found [] (f ∷ fs) k forms is = absurd forms
  reordered_found (l ∷ ls) [] k forms is = absurd forms
  reordered_found (l ∷ ls) (f ∷ fs) zero forms is =
      let one : sorted ≡ f = (let both : Some f ≡ Some sorted = is in cc) in
      Any-head (IsPermutation names) l ls
      (IsPermutation-trans names sorted l form.moved (subst (λ z. IsPermutation z l) (sym one) (IsPermutation-sym l f forms.0.moved)))
  reordered_found (l ∷ ls) (f ∷ fs) (suc k) forms is = Any-tail (IsPermutation names) l ls (reordered_found ls fs k forms.1 is)

  none_in : (lists forms : List (List Name)) → AreSortedForms lists forms → IsFirstPlace forms sorted None → ¬ HasSome (IsPermutation names) lists
  none_in [] forms each none h = h
  none_in (l ∷ ls) [] each none h = absurd each
  none_in (l ∷ ls) (f ∷ fs) each none (inl moved) =
      let same : IsPermutation f sorted = IsPermutation-trans f l sorted (IsPermutation-sym l f each.0.moved) (IsPermutation-trans l names sorted (IsPermutation-sym names l moved) form.moved) in
      none 0 (ap (λ z. Some z) (sorted_unique f sorted same each.0.rising form.rising))
  none_in (l ∷ ls) (f ∷ fs) each none (inr h) = none_in ls fs each.1 (λ k is. none (suc k) is) h

  pub none_reordered : (lists forms : List (List Name)) → AreSortedForms lists forms → IsFirstPlace forms sorted None → ¬ Any (IsPermutation names) lists
  none_reordered lists forms each none h = none_in lists forms each none (some_from_any (IsPermutation names) lists h)

-- where the first test fails, the second tells both
pub either_list : (P Q : Type 0) (b c : Bool) → (b ≡ true) ↔ P → (c ≡ true) ↔ Q → b ≡ false → (c ≡ true) ↔ (P ⊎ Q)
either_list P Q b c first second fails = (
  (λ e. inr (second.0 e)),
  (λ found. elim found [ inl p ↦ (let yes = first.1 p in cc) | inr q ↦ second.1 q ]),
)
