-- A table has one canonical text.
use Rattle.std.proofs.Common.{◌≡◌, ◌∙◌, ℕ, zero, suc, ◌+◌, ◌<◌, List, [], ◌∷◌, ◌++◌, Bool, true, false, cond, length, get_or, map, refl, sym, ap, subst, arith, is_lt, Less, Equal, Greater, IsPermutation, add-one}
use Rattle.std.specs.Prelude.{IsSorted, nat_eq}
use Rattle.std.specs.declared.cmp.Ordering.{Ordering}
use Rattle.std.specs.Ordering.{nat_cmp, ordering_reverse}
use Rattle.std.specs.Cmp.{IsTotalOrder, IsStrictWeakOrder}
use Rattle.std.specs.Cmp.Lexicographic.{lists_ties, pointwise, slice_cmp, texts_ties}
use Rattle.std.proofs.lemmas.Cmp.{lists_total, nat_list_cmp_total}
use Rattle.std.proofs.lemmas.List.{nil_from_length}
use Rattle.std.proofs.lemmas.List.Sorted.{All-permutation, IsPermutation-cons, IsPermutation-middle, IsPermutation-refl, IsPermutation-sym, IsPermutation-trans, length_permutation, ranks_by, sorted_far}
use Rattle.members_dm.proofs.OrderLemmas.{not_lt_both, ties_from_eq}
use Rattle.value_dm.specs.Equality.{lists_decide, numbers_decide}
use Rattle.schema_dm.proofs.Reordered.{permutation_rest}
use Rattle.schema_dm.specs.declared.draft.Column.{Column}
use Rattle.table_csv.specs.CanonicalText.{IsCanonicalText, row_fields, text_of}
use Rattle.table_csv.specs.Cells.{Row}
use Rattle.table_csv.specs.TableFiles.{Record, name_fields}

abbrev line_cmp : Record → Record → Ordering
line_cmp = slice_cmp (slice_cmp nat_cmp)

abbrev same_line : Record → Record → Bool
same_line = pointwise (pointwise nat_eq)

lines_decide : (x y : Record) → (same_line x y ≡ true → x ≡ y) × (x ≡ y → same_line x y ≡ true)
lines_decide = lists_decide numbers_decide

lines_total : IsTotalOrder line_cmp
lines_total = lists_total nat_list_cmp_total

one_line : (x y : Record) → line_cmp x y ≡ Equal → x ≡ y
one_line = ties_from_eq same_line line_cmp (lists_ties (slice_cmp nat_cmp) texts_ties) lines_decide

lines_weak : IsStrictWeakOrder (λ (x y : Record). is_lt (line_cmp x y))
lines_weak = ranks_by lines_total (λ (x : Record). x)

-- ---- one sorted list

-- no line of a sorted list is before its first
first_least : (x : Record) (xs ys : List Record) → IsSorted line_cmp (x ∷ xs) → IsPermutation (x ∷ xs) ys → (y : Record) (rest : List Record) → ys ≡ y ∷ rest → is_lt (line_cmp y x) ≡ false
first_least x xs ys sorted moved y rest is =
    subst (λ (zs : List Record). (k : ℕ) (d : Record) → k < length zs → is_lt (line_cmp (get_or zs k d) x) ≡ false) is
    (All-permutation (λ z. is_lt (line_cmp z x) ≡ false) (x ∷ xs) ys moved (λ k d l. sorted_far (λ (a b : Record). is_lt (line_cmp a b)) lines_weak (x ∷ xs) sorted 0 k d (omega arith) l)) 0 y (omega arith)

sorted_rest : (x : Record) (xs : List Record) → IsSorted line_cmp (x ∷ xs) → IsSorted line_cmp xs
sorted_rest x xs sorted k d l m = rw add-one (sorted_far (λ (a b : Record). is_lt (line_cmp a b)) lines_weak (x ∷ xs) sorted (suc k) (suc (suc k)) d (omega arith) (omega arith))

sorted_unique : (xs ys : List Record) → IsPermutation xs ys → IsSorted line_cmp xs → IsSorted line_cmp ys → xs ≡ ys
sorted_unique [] ys moved a b = sym (nil_from_length ys (length_permutation [] ys moved))
sorted_unique (x ∷ xs) [] moved a b = absurd (let none : length {A = Record} [] ≡ length (x ∷ xs) = length_permutation (x ∷ xs) [] moved in omega arith)
sorted_unique (x ∷ xs) (y ∷ ys) moved a b =
    let up : is_lt (line_cmp y x) ≡ false = first_least x xs (y ∷ ys) a moved y ys refl in
    let down : is_lt (line_cmp x y) ≡ false = first_least y ys (x ∷ xs) b (IsPermutation-sym (x ∷ xs) (y ∷ ys) moved) x xs refl in
    let one : x ≡ y = one_line x y (not_lt_both (line_cmp x y) down (ap is_lt (sym (lines_total.antisymm y x)) ∙ up)) in
    let rest : IsPermutation xs ys = permutation_rest same_line lines_decide x xs ys (subst (λ z. IsPermutation (x ∷ xs) (z ∷ ys)) (sym one) moved) in
    ap (λ z. z ∷ xs) one ∙ ap (λ zs. y ∷ zs) (sorted_unique xs ys rest (sorted_rest x xs a) (sorted_rest y ys b))

pub text_one : (columns : List Column) (rows : List Row) (text other : List ℕ) → IsCanonicalText columns rows text → IsCanonicalText columns rows other → text ≡ other
text_one columns rows text other h k =
    let moved : IsPermutation h.lines k.lines = IsPermutation-trans h.lines (map row_fields rows) k.lines (IsPermutation-sym (map row_fields rows) h.lines h.same) k.same in
    h.is_text ∙ ap (λ (lines : List Record). text_of (name_fields columns ∷ lines)) (sorted_unique h.lines k.lines moved h.sorted k.sorted) ∙ sym k.is_text

-- ---- some sorted list

insert_line : Record → List Record → List Record
insert_line x [] = x ∷ []
insert_line x (y ∷ ys) = cond (is_lt (line_cmp y x)) (y ∷ insert_line x ys) (x ∷ y ∷ ys)

sort_lines : List Record → List Record
sort_lines [] = []
sort_lines (x ∷ xs) = insert_line x (sort_lines xs)

insert_moves : (x : Record) (ys : List Record) → IsPermutation (x ∷ ys) (insert_line x ys)
unfolding insert_line
insert_moves x [] = IsPermutation-refl (x ∷ [])
insert_moves x (y ∷ ys) = at (insert_moves x ys) (is_lt (line_cmp y x))
  where
    at : IsPermutation (x ∷ ys) (insert_line x ys) → (b : Bool) → IsPermutation (x ∷ y ∷ ys) (cond b (y ∷ insert_line x ys) (x ∷ y ∷ ys))
    at rest true = IsPermutation-trans (x ∷ y ∷ ys) (y ∷ x ∷ ys) (y ∷ insert_line x ys) (IsPermutation-sym (y ∷ x ∷ ys) (x ∷ y ∷ ys) (IsPermutation-middle (y ∷ []) x ys)) (IsPermutation-cons y (x ∷ ys) (insert_line x ys) rest)
    at rest false = IsPermutation-refl (x ∷ y ∷ ys)

sort_moves : (xs : List Record) → IsPermutation xs (sort_lines xs)
unfolding sort_lines
sort_moves [] = IsPermutation-refl []
sort_moves (x ∷ xs) = IsPermutation-trans (x ∷ xs) (x ∷ sort_lines xs) (insert_line x (sort_lines xs)) (IsPermutation-cons x xs (sort_lines xs) (sort_moves xs)) (insert_moves x (sort_lines xs))

sorted_one : (x : Record) → IsSorted line_cmp (x ∷ [])
sorted_one x k d l m = absurd (omega arith)

sorted_cons : (x y : Record) (ys : List Record) → is_lt (line_cmp y x) ≡ false → IsSorted line_cmp (y ∷ ys) → IsSorted line_cmp (x ∷ y ∷ ys)
sorted_cons x y ys e sorted zero d l m = e
sorted_cons x y ys e sorted (suc k) d l m = rw add-one (rw add-one at (sorted k d (omega arith) (omega arith)))

-- the first two of a sorted list
sorted_first : (x y : Record) (ys : List Record) → IsSorted line_cmp (x ∷ y ∷ ys) → is_lt (line_cmp y x) ≡ false
sorted_first x y ys sorted = sorted 0 x (omega arith) (omega arith)

not_before : (x y : Record) → is_lt (line_cmp y x) ≡ true → is_lt (line_cmp x y) ≡ false
not_before x y e = ap is_lt (lines_total.antisymm x y) ∙ turned (line_cmp y x) e
  where
    turned : (r : Ordering) → is_lt r ≡ true → is_lt (ordering_reverse r) ≡ false
    turned Less f = refl
    turned Equal f = cc
    turned Greater f = cc

insert_behind : (x y : Record) (ys : List Record) → is_lt (line_cmp y x) ≡ true → IsSorted line_cmp (y ∷ ys) → IsSorted line_cmp (y ∷ insert_line x ys)
unfolding insert_line
insert_behind x y [] e sorted = sorted_cons y x [] (not_before x y e) (sorted_one x)
insert_behind x y (z ∷ zs) e sorted = at (λ f. insert_behind x z zs f (sorted_rest y (z ∷ zs) sorted)) (is_lt (line_cmp z x)) refl
  where
    at : (is_lt (line_cmp z x) ≡ true → IsSorted line_cmp (z ∷ insert_line x zs)) → (b : Bool) → is_lt (line_cmp z x) ≡ b → IsSorted line_cmp (y ∷ cond b (z ∷ insert_line x zs) (x ∷ z ∷ zs))
    at rest true f = sorted_cons y z (insert_line x zs) (sorted_first y z zs sorted) (rest f)
    at rest false f = sorted_cons y x (z ∷ zs) (not_before x y e) (sorted_cons x z zs f (sorted_rest y (z ∷ zs) sorted))

insert_sorts : (x : Record) (ys : List Record) → IsSorted line_cmp ys → IsSorted line_cmp (insert_line x ys)
unfolding insert_line
insert_sorts x [] sorted = sorted_one x
insert_sorts x (y ∷ ys) sorted = at (is_lt (line_cmp y x)) refl
  where
    at : (b : Bool) → is_lt (line_cmp y x) ≡ b → IsSorted line_cmp (cond b (y ∷ insert_line x ys) (x ∷ y ∷ ys))
    at true e = insert_behind x y ys e sorted
    at false e = sorted_cons x y ys e sorted

sort_sorts : (xs : List Record) → IsSorted line_cmp (sort_lines xs)
unfolding sort_lines
sort_sorts [] = λ k d l m. absurd (omega arith)
sort_sorts (x ∷ xs) = insert_sorts x (sort_lines xs) (sort_sorts xs)

pub text_some : (columns : List Column) (rows : List Row) → (text : List ℕ) × IsCanonicalText columns rows text
text_some columns rows =
    let lines : List Record = sort_lines (map row_fields rows) in
    (text_of (name_fields columns ∷ lines), record { lines = lines; same = sort_moves (map row_fields rows); sorted = sort_sorts (map row_fields rows); is_text = refl })
