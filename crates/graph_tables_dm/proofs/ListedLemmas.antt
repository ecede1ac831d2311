-- Names with numbers that are collected one by one and put in order.
use Rattle.std.proofs.Common.{◌≡◌, ◌⊎◌, ◌≤◌, ◌+◌, ℕ, zero, suc, List, [], ◌∷◌, ◌++◌, Some, None, Bool, true, false, eqb, map, length, get_or, refl, sym, ap, ◌∙◌, subst, inl, inr, arith, AllPairs, IsPermutation, IsSortedBy, is_lt}
use Rattle.std.specs.Prelude.{encode_utf8_all}
use Rattle.std.specs.Cmp.{IsTotalOrder, IsStrictWeakOrder}
use Rattle.std.specs.Cmp.Lexicographic.{on_texts}
use Rattle.std.specs.List.{sum_by}
use Rattle.std.proofs.lemmas.Bool.{cases_lt, eq-eqb}
use Rattle.std.proofs.lemmas.Bool.Decides.{eqb_tells}
use Rattle.std.proofs.lemmas.List.Sums.{sum_by-cons}
use Rattle.std.proofs.lemmas.List.Sorted.{Contains-permutation, IsPermutation-map, IsPermutation-sym, ranks_by, sorted_far, sum_by-IsPermutation}
use Rattle.std.proofs.lemmas.Option.{slice_get_within}
use Rattle.members_dm.specs.Membership.{IsIn, IsRising, NoRepeats}
use Rattle.members_dm.proofs.AnyLemmas.{item_from_all}
use Rattle.members_dm.proofs.ElementsLemmas.{NoRepeats-map}
use Rattle.members_dm.proofs.MembershipLemmas.{IsIn-append, IsIn-back, IsIn-front, map-IsIn}
use Rattle.value_dm.specs.Order.{byte_cmp}
use Rattle.schema_dm.specs.Naming.{Name}
use Rattle.schema_dm.specs.Shapes.{IsBefore}
use Rattle.roles_dm.specs.declared.role.Role.{Role}
use Rattle.roles_dm.specs.Roles.{role_at}
use Rattle.roles_dm.proofs.NumberLemmas.{contains_from_in, in_from_contains}
use Rattle.graph_tables_dm.specs.declared.listed.NumberedName.{NumberedName}
use Rattle.graph_tables_dm.specs.Listed.{AddsTabled, AreInOrder, IsNotAfter, IsTabled, ListsOnce, table_name}

-- ---- an order of names

names_total : IsTotalOrder byte_cmp
names_total = on_texts encode_utf8_all

pub comes_first : NumberedName → NumberedName → Bool
comes_first x y = is_lt (byte_cmp x.name y.name)

pub names_weak : IsStrictWeakOrder (λ (x y : NumberedName). is_lt (byte_cmp x.name y.name))
names_weak = ranks_by names_total (λ (x : NumberedName). x.name)

rising_from_pairs : {X : Type 0} (R : X → X → Type 0) (xs : List X) → AllPairs R xs → IsRising R xs
rising_from_pairs R [] h = tt
rising_from_pairs R (x ∷ xs) h =
    (item_from_all (R x) xs (λ k d l. h 0 (suc k) d (omega arith) (omega arith)), rising_from_pairs R xs (λ i j d a b. h (suc i) (suc j) d (omega arith) (omega arith)))

not_after : (x y : NumberedName) → is_lt (byte_cmp y.name x.name) ≡ false → IsNotAfter x y
unfolding IsBefore
not_after x y e before = let f : true ≡ false = sym (ap is_lt before) ∙ e in cc

pub sorted_rising : (xs : List NumberedName) → IsSortedBy (λ (x y : NumberedName). is_lt (byte_cmp x.name y.name)) xs → IsRising IsNotAfter xs
sorted_rising xs sorted = rising_from_pairs IsNotAfter xs (λ i j d l m. not_after (get_or xs i d) (get_or xs j d) (sorted_far (λ (x y : NumberedName). is_lt (byte_cmp x.name y.name)) names_weak xs sorted i j d (omega (arith, l)) m))

-- ---- lists of numbers without repeats, in another order

abbrev one_if : Bool → ℕ
one_if true = 1
one_if false = 0

how_often : ℕ → List ℕ → ℕ
how_often n xs = sum_by (λ k. one_if (eqb k n)) xs

more : (n x : ℕ) (xs : List ℕ) → how_often n (x ∷ xs) ≡ one_if (eqb x n) + how_often n xs
unfolding how_often
more n x xs = sum_by-cons (λ k. one_if (eqb k n)) x xs

none_at_all : (n : ℕ) → how_often n [] ≡ 0
unfolding how_often
none_at_all n = refl

none_counted : (n : ℕ) (xs : List ℕ) → ¬ IsIn n xs → how_often n xs ≡ 0
none_counted n [] none = none_at_all n
none_counted n (x ∷ xs) none =
    let rest = none_counted n xs (λ i. none (inr i)) in
    more n x xs ∙ elim (eqb_tells x n) [ inl e ↦ absurd (none (inl e.1)) | inr e ↦ (λ i. one_if (e.0 i) + rest i) ]

some_counted : (n : ℕ) (xs : List ℕ) → IsIn n xs → 1 ≤ how_often n xs
some_counted n [] i = absurd i
some_counted n (x ∷ xs) (inl e) = let one : one_if (eqb x n) ≡ 1 = ap one_if (eq-eqb x n e) in omega (arith, more n x xs, one)
some_counted n (x ∷ xs) (inr i) = omega (arith, more n x xs, some_counted n xs i)

at_most_once : (xs : List ℕ) → NoRepeats xs → (n : ℕ) → how_often n xs ≤ 1
at_most_once [] once n = let e = none_at_all n in omega (arith, e)
at_most_once (x ∷ xs) once n = elim (eqb_tells x n) [
  | inl e ↦
      (let none : how_often n xs ≡ 0 = none_counted n xs (λ i. once.0 (subst (λ k. IsIn k xs) (sym e.1) i)) in
      let one : one_if (eqb x n) ≡ 1 = ap one_if e.0 in
      omega (arith, more n x xs, none, one))
  | inr e ↦
      (let zero_here : one_if (eqb x n) ≡ 0 = ap one_if e.0 in
      omega (arith, more n x xs, at_most_once xs once.1 n, zero_here))
]

from_counts : (xs : List ℕ) → ((n : ℕ) → how_often n xs ≤ 1) → NoRepeats xs
from_counts [] h = tt
from_counts (x ∷ xs) h = (
  (λ i.
      let one : one_if (eqb x x) ≡ 1 = ap one_if (eq-eqb x x refl) in
      let there = some_counted x xs i in
      let most = h x in
      omega (arith, more x x xs, one, there, most)),
  from_counts xs (λ n. omega (arith, h n, more n x xs)),
)

once_moved : (xs ys : List ℕ) → IsPermutation xs ys → NoRepeats xs → NoRepeats ys
unfolding how_often
once_moved xs ys moved once = from_counts ys (λ n. subst (λ k. k ≤ 1) (sym (sum_by-IsPermutation (λ k. one_if (eqb k n)) xs ys moved)) (at_most_once xs once n))

once_unmapped : {X Y : Type 0} (f : X → Y) (xs : List X) → NoRepeats (map f xs) → NoRepeats xs
once_unmapped f [] h = tt
once_unmapped f (x ∷ xs) h = ((λ i. h.0 (map-IsIn f x xs i)), once_unmapped f xs h.1)

in_moved : {X : Type 0} (xs ys : List X) (x : X) → IsPermutation xs ys → IsIn x xs → IsIn x ys
in_moved xs ys x moved i = in_from_contains x ys (Contains-permutation xs ys x moved (contains_from_in x xs i))

-- a list of those that have a property, where a number has one name, put in order
pub put_in_order : (P : NumberedName → Type 0) → ((d e : NumberedName) → P d → P e → d.number ≡ e.number → d.name ≡ e.name) → (xs ys : List NumberedName) → ListsOnce P xs → IsPermutation xs ys → IsRising IsNotAfter ys → AreInOrder P ys
put_in_order P one xs ys lists moved rising = record {
  lists = record {
    items = λ e. ((λ i. (lists.items e).0 (in_moved ys xs e (IsPermutation-sym xs ys moved) i)), (λ p. in_moved xs ys e moved ((lists.items e).1 p)));
    once = once_unmapped (λ (e : NumberedName). e.number) ys (once_moved _ _ (IsPermutation-map (λ (e : NumberedName). e.number) xs ys moved) (NoRepeats-map (λ (e : NumberedName). e.number) xs same lists.once));
  };
  rising = rising;
}
  where
    same : (d e : NumberedName) → IsIn d xs → IsIn e xs → d.number ≡ e.number → d ≡ e
    same d e i j number =
        let name = one d e ((lists.items d).0 i) ((lists.items e).0 j) number in
        λ k. record { name = name k; number = number k }

-- ---- items that are added at the end

-- one more that has the property, or none
module _ (P Q : NumberedName → Type 0) (old : List NumberedName) (lists : ListsOnce P old) (weaker : (e : NumberedName) → P e → Q e) where
  pub lists_more : (x : NumberedName) → ¬ P x → Q x → ((e : NumberedName) → Q e → P e ⊎ (x ≡ e)) → ListsOnce Q (old ++ x ∷ [])
  lists_more x new q either = record {
    items = λ e. (
      (λ i. elim (IsIn-append e old (x ∷ []) i) [ inl k ↦ weaker e ((lists.items e).0 k) | inr k ↦ elim k [ inl s ↦ subst Q s q | inr n ↦ absurd n ] ]),
      (λ h. elim (either e h) [ inl p ↦ IsIn-front e old (x ∷ []) ((lists.items e).1 p) | inr s ↦ IsIn-back e old (x ∷ []) (inl s) ]),
    );
    once = push old lists.once (λ i. new ((lists.items x).0 i));
  }
    where
      push : (xs : List NumberedName) → NoRepeats xs → ¬ IsIn x xs → NoRepeats (xs ++ x ∷ [])
      push [] once none = ((λ i. i), tt)
      push (y ∷ ys) once none = (
        (λ i. elim (IsIn-append y ys (x ∷ []) i) [ inl k ↦ once.0 k | inr k ↦ elim k [ inl s ↦ none (inl (sym s)) | inr n ↦ n ] ]),
        push ys once.1 (λ i. none (inr i)),
      )

  pub lists_same : ((e : NumberedName) → Q e → P e) → ListsOnce Q old
  lists_same stronger = record { items = λ e. ((λ i. weaker e ((lists.items e).0 i)), (λ h. (lists.items e).1 (stronger e h))); once = lists.once }

-- ---- the names of tables

unsome_role : (r s : Role) → Some r ≡ Some s → r ≡ s
unsome_role r s e = cc

unsome_name : (x y : Name) → Some x ≡ Some y → x ≡ y
unsome_name x y e = cc

module _ (roles : List Role) where
  -- a number has one table
  pub one_table : (d e : NumberedName) → IsTabled roles d → IsTabled roles e → d.number ≡ e.number → d.name ≡ e.name
  one_table d e h k same =
      let role : h.0 ≡ k.0 = unsome_role h.0 k.0 (sym h.1 ∙ ap (role_at roles) same ∙ k.1) in
      unsome_name d.name e.name (sym h.2 ∙ ap table_name role ∙ k.2)

  abbrev pub IsTabledUpTo : ℕ → NumberedName → Type 0
  IsTabledUpTo n e = (e.number ≤ n) × IsTabled roles e

  pub tabled_none : ListsOnce (IsTabledUpTo 0) []
  tabled_none = record { items = λ e. ((λ i. absurd i), (λ h. not_zero e.number h.0 h.1)); once = tt }
    where
      not_zero : {name : Name} (k : ℕ) → k ≤ 0 → IsTabled roles (record { name = name; number = k }) → ⊥
      not_zero zero l h = let f : None ≡ Some h.0 = h.1 in cc
      not_zero (suc k) l h = omega (arith, l)

  pub tabled_more : (n : ℕ) (old new : List NumberedName) → ListsOnce (IsTabledUpTo n) old → AddsTabled roles (n + 1) old new → ListsOnce (IsTabledUpTo (n + 1)) new
  tabled_more n old new lists (inl h) =
      subst (ListsOnce (IsTabledUpTo (n + 1))) (sym h.2)
      (lists_more (IsTabledUpTo n) (IsTabledUpTo (n + 1)) old lists weaker (record { name = h.0; number = n + 1 }) (λ p. let l = p.0 in omega (arith, l)) (omega arith, h.1) either)
    where
      weaker : (e : NumberedName) → IsTabledUpTo n e → IsTabledUpTo (n + 1) e
      weaker e p = ((let l = p.0 in omega (arith, l)), p.1)

      either : (e : NumberedName) → IsTabledUpTo (n + 1) e → IsTabledUpTo n e ⊎ (record { name = h.0; number = n + 1 } ≡ e)
      either e p = elim (cases_lt n e.number) [
        | inl l ↦
            (let m = p.0 in
            let number : n + 1 ≡ e.number = omega (arith, l, m) in
            let name : h.0 ≡ e.name = one_table (record { name = h.0; number = n + 1 }) e h.1 p.1 number in
            inr (λ k. record { name = name k; number = number k }))
        | inr l ↦ inl (l, p.1)
      ]
  tabled_more n old new lists (inr h) =
      subst (ListsOnce (IsTabledUpTo (n + 1))) (sym h.1)
      (lists_same (IsTabledUpTo n) (IsTabledUpTo (n + 1)) old lists (λ e p. ((let l = p.0 in omega (arith, l)), p.1)) stronger)
    where
      stronger : (e : NumberedName) → IsTabledUpTo (n + 1) e → IsTabledUpTo n e
      stronger e p = elim (cases_lt n e.number) [
        | inl l ↦
            (let m = p.0 in
            let number : e.number ≡ n + 1 = omega (arith, l, m) in
            absurd (h.0 e.name (subst (λ k. IsTabled roles (record { name = e.name; number = k })) number p.1)))
        | inr l ↦ (l, p.1)
      ]

  pub tabled_all : (n : ℕ) (xs : List NumberedName) → length roles ≤ n → ListsOnce (IsTabledUpTo n) xs → ListsOnce (IsTabled roles) xs
  tabled_all n xs past lists = record { items = λ e. ((λ i. ((lists.items e).0 i).1), (λ h. (lists.items e).1 (below e.number h.0 h.1, h))); once = lists.once }
    where
      below : (k : ℕ) (r : Role) → role_at roles k ≡ Some r → k ≤ n
      below zero r e = omega arith
      below (suc k) r e = let l = slice_get_within roles k r e in omega (arith, l, past)
