-- One row of each key.
use Rattle.std.proofs.Common.{◌≡◌, ℕ, ◌≤◌, ◌<◌, ◌+◌, List, [], ◌∷◌, ◌++◌, length, get_or, slice_index, true, false, refl, sym, ap, ◌∙◌, subst, arith, ⊎_elim, inl, inr, All, Contains, Ordering, Less, Equal, Greater, is_lt, nat_cmp}
use Rattle.std.specs.Cmp.Lexicographic.{slice_cmp}
use Rattle.std.specs.Ordering.{ordering_then, ordering_reverse}
use Rattle.std.specs.List.{AllWithin}
use Rattle.std.specs.Str.{bytes_eq}
use Rattle.std.proofs.lemmas.Slice.Eq.{bytes_eq-Decides}
use Rattle.std.proofs.lemmas.Bool.{both_ways, cases_lt, cases_Bool, or_cases}
use Rattle.std.proofs.lemmas.Bool.Decides.{nat_tests}
use Rattle.std.proofs.lemmas.Cmp.{nat_list_cmp_total}
use Rattle.std.proofs.lemmas.List.{get_or_default}
use Rattle.std.proofs.lemmas.List.Elements.{All-nil, All-cons, All-push, All-contains, Contains-append_left, Contains-push}
use Rattle.std.proofs.lemmas.List.Quantifiers.{all_pairs_push}
use Rattle.solutions_dm.specs.declared.columns.Column.{Column}
use Rattle.solutions_dm.specs.declared.keys.Keyed.{Keyed}
use Rattle.solutions_dm.specs.Columns.{names_of, number_at, has_column}
use Rattle.solutions_dm.specs.Keys.{key_at, is_below, rows_of, IsKeyed}
use Rattle.solutions_dm.specs.Picks.{IsPicked}
use Rattle.solutions_dm.specs.Repeats.{IsDistinct, AreOfEach}
use Rattle.solutions_dm.specs.Table.{Table}
use Rattle.solutions_dm.proofs.ColumnLemmas.{number_at_none}
use Rattle.solutions_dm.proofs.KeyLemmas.{not_below_itself}
use Rattle.solutions_dm.proofs.ListLemmas.{All-from_map, Contains-from_map, contains_here, contains_later, rows_contain}
use Rattle.members_dm.proofs.PositionLists.{positions_within}
use Rattle.solutions_dm.proofs.PickLemmas.{picked_rows}

-- ---- keys that are neither below the other

nat_tied : (a b : ℕ) → nat_cmp a b ≡ Equal → a ≡ b
nat_tied a b e = grind (arith, nat_tests)

then_tied : (r s : Ordering) → ordering_then r s ≡ Equal → (r ≡ Equal) × (s ≡ Equal)
then_tied Less s e = cc e
then_tied Equal s e = (refl, e)
then_tied Greater s e = cc e

tied : (a b : List ℕ) → slice_cmp nat_cmp a b ≡ Equal → a ≡ b
tied [] [] e = refl
tied [] (y ∷ ys) e = cc e
tied (x ∷ xs) [] e = cc e
tied (x ∷ xs) (y ∷ ys) e = let h = then_tied _ _ e in λ q. nat_tied x y h.0 q ∷ tied xs ys h.1 q

same_key : (a b : List ℕ) → is_below a b ≡ false → is_below b a ≡ false → a ≡ b
same_key a b h k = go (slice_cmp nat_cmp a b) refl
  where
    go : (r : Ordering) → slice_cmp nat_cmp a b ≡ r → a ≡ b
    go Less e = absurd (both_ways _ h (ap is_lt e))
    go Equal e = tied a b e
    go Greater e = absurd (both_ways _ k (ap is_lt (nat_list_cmp_total.antisymm b a ∙ ap ordering_reverse e)))

below_below : (a b c : List ℕ) → is_below a b ≡ true → is_below b c ≡ true → is_below a c ≡ true
below_below a b c h k = ap is_lt (nat_list_cmp_total.trans a b c (less _ h) (less _ k))
  where
    less : (r : Ordering) → is_lt r ≡ true → r ≡ Less
    less Less e = refl
    less Equal e = cc e
    less Greater e = cc e

-- ---- one step

pub of_none : (key : ℕ → List ℕ) (n : ℕ) (ks : List Keyed) → AreOfEach key n ks 0 []
of_none key n ks = record {
  within = All-nil (λ i. i < n);
  covered = λ k d l m. absurd (omega arith);
  lower = λ d l. All-nil (λ i. is_below (key i) (get_or ks 0 d).key.items ≡ true);
  rising = λ i j d l m. absurd (omega arith);
}

pub of_more : (key : ℕ → List ℕ) (n : ℕ) (ks : List Keyed) (at next : ℕ) (kept more : List ℕ) (x : Keyed) → IsKeyed key n ks → at < length ks → x ≡ get_or ks at x → at + 1 ≤ next →
    AllWithin (λ (k : Keyed). is_below x.key.items k.key.items ≡ false) ks (at + 1) next → ((d : Keyed) → next < length ks → is_below x.key.items (get_or ks next d).key.items ≡ true) →
    more ≡ kept ++ x.row ∷ [] → AreOfEach key n ks at kept → AreOfEach key n ks next more
of_more key n ks at next kept more x keyed la is le passed stopped e h = subst (AreOfEach key n ks next) (sym e) (record {
  within = All-push (λ i. i < n) kept x.row h.within x_within;
  covered = λ k d l m. ⊎_elim
      (λ s. let r = h.covered k d s m in (r.0, Contains-append_left kept (x.row ∷ []) r.0 r.1, r.2))
      (λ s. (x.row, Contains-push kept x.row, sym x_key ∙ tied_to k d s l m))
      (cases_lt k at);
  lower = λ d l. All-push (λ i. is_below (key i) (get_or ks next d).key.items ≡ true) kept x.row
      (λ k f m. below_below (key (get_or kept k f)) x.key.items (get_or ks next d).key.items (below_x k f m) (stopped d l))
      (subst (λ a. is_below a (get_or ks next d).key.items ≡ true) x_key (stopped d l));
  rising = all_pairs_push (λ i j. is_below (key i) (key j) ≡ true) kept x.row h.rising (λ k f m. subst (λ a. is_below (key (get_or kept k f)) a ≡ true) x_key (below_x k f m));
})
  where
    x_key : x.key.items ≡ key x.row
    x_key = subst (λ (k : Keyed). k.key.items ≡ key k.row) (sym is) (keyed.keys at x la)

    x_within : x.row < n
    x_within = subst (λ (k : Keyed). k.row < n) (sym is) (All-from_map (λ i. i < n) (λ (k : Keyed). k.row) ks (positions_within n (rows_of ks) keyed.permuted) at x la)

    below_x : (k f : ℕ) → k < length kept → is_below (key (get_or kept k f)) x.key.items ≡ true
    below_x k f m = subst (λ (z : Keyed). is_below (key (get_or kept k f)) z.key.items ≡ true) (sym is) (h.lower x la k f m)

    at_x : (d : Keyed) → get_or ks at d ≡ x
    at_x d = get_or_default ks at d x la ∙ sym is

    tied_to : (k : ℕ) (d : Keyed) → at ≤ k → k < next → k < length ks → x.key.items ≡ (get_or ks k d).key.items
    tied_to k d s l m = ⊎_elim
        (λ t. same_key x.key.items (get_or ks k d).key.items (passed k d (omega arith) l)
        (subst (λ (z : Keyed). is_below (get_or ks k d).key.items z.key.items ≡ false) (at_x d) (keyed.rising at k d s m)))
        (λ t. let same : at ≡ k = omega arith in ap (λ (z : Keyed). z.key.items) (sym (at_x d)) ∙ ap (λ i. (get_or ks i d).key.items) same)
        (cases_lt at k)

-- ---- rows with one key are one mapping

numbers_same : (cs : List Column) (i j : ℕ) (names : List (List ℕ)) → key_at cs names i ≡ key_at cs names j → All (λ x. number_at cs i x ≡ number_at cs j x) names
numbers_same cs i j [] e = All-nil (λ x. number_at cs i x ≡ number_at cs j x)
numbers_same cs i j (x ∷ xs) e = All-cons (λ x. number_at cs i x ≡ number_at cs j x) x xs (head_same e) (numbers_same cs i j xs (tail_same e))
  where
    head_same : {a b : ℕ} {as' bs : List ℕ} → a ∷ as' ≡ b ∷ bs → a ≡ b
    head_same e = cc e

    tail_same : {a b : ℕ} {as' bs : List ℕ} → a ∷ as' ≡ b ∷ bs → as' ≡ bs
    tail_same e = cc e

named : (cs : List Column) (x : List ℕ) → has_column cs x ≡ true → Contains (names_of cs) x
named [] x e = cc e
named (c ∷ cs) x e = ⊎_elim
    (λ s. subst (λ y. Contains (c.name ∷ names_of cs) y) ((bytes_eq-Decides c.name x).0 s) (contains_here c.name (names_of cs)))
    (λ s. contains_later c.name x (names_of cs) (named cs x s)) (or_cases (bytes_eq c.name x) (has_column cs x) e)

mapping_from_key : (cs : List Column) (i j : ℕ) → key_at cs (names_of cs) i ≡ key_at cs (names_of cs) j → (x : List ℕ) → number_at cs i x ≡ number_at cs j x
mapping_from_key cs i j e x = elim (cases_Bool (has_column cs x)) [
  | inl h ↦ All-contains (λ x. number_at cs i x ≡ number_at cs j x) (names_of cs) x (numbers_same cs i j (names_of cs) e) (named cs x h)
  | inr h ↦ number_at_none cs i x h ∙ sym (number_at_none cs j x h)
]

key_from_mapping : (cs : List Column) (i j : ℕ) (names : List (List ℕ)) → ((x : List ℕ) → number_at cs i x ≡ number_at cs j x) → key_at cs names i ≡ key_at cs names j
key_from_mapping cs i j [] h = refl
key_from_mapping cs i j (x ∷ xs) h = λ q. h x q ∷ key_from_mapping cs i j xs h q

pub distinct_rows : (rows s : Table) (ks : List Keyed) (kept : List ℕ) → IsKeyed (key_at rows.columns (names_of rows.columns)) rows.rows ks →
    AreOfEach (key_at rows.columns (names_of rows.columns)) rows.rows ks (length ks) kept → IsPicked rows kept s → IsDistinct rows s
distinct_rows rows s ks kept keyed h p = record {
  same = λ m. let law = picked_rows kept rows s p m in (
    (λ r. let k = law.0 r in (k.0, All-contains (λ i. i < rows.rows) kept k.0 h.within k.1, k.2)),
    (λ r. let at = Contains-from_map (λ (k : Keyed). k.row) r.0 ks (rows_contain rows.rows (rows_of ks) keyed.permuted r.0 r.1) in
        let c = h.covered at.1.0 at.0 at.1.1 at.1.1 in
        let one : key_at rows.columns (names_of rows.columns) c.0 ≡ key_at rows.columns (names_of rows.columns) r.0 =
        c.2 ∙ keyed.keys at.1.0 at.0 at.1.1 ∙ ap (λ (k : Keyed). key_at rows.columns (names_of rows.columns) k.row) at.1.2 ∙ ap (key_at rows.columns (names_of rows.columns)) at.2 in
        law.1 (c.0, c.1, (λ x. r.2 x ∙ sym (mapping_from_key rows.columns c.0 r.0 one x)))),
  );
  once = λ i j l m e.
      let lj : j < length kept = omega (arith, m, p.count) in
      let li : i < length kept = omega arith in
      let one = key_from_mapping rows.columns (slice_index kept i) (slice_index kept j) (names_of rows.columns) (λ x. sym (p.each i li x) ∙ e x ∙ p.each j lj x) in
      both_ways _ (subst (λ a. is_below (key_at rows.columns (names_of rows.columns) (slice_index kept i)) a ≡ false) one (not_below_itself (key_at rows.columns (names_of rows.columns) (slice_index kept i)))) (h.rising i j 0 l lj);
}
