-- The pairs of all rows from the runs of one key.
use Rattle.std.proofs.Common.{◌≡◌, ◌≢◌, ℕ, ◌≤◌, ◌<◌, ◌+◌, ◌-◌, List, [], ◌∷◌, ◌++◌, length, get_or, take, drop, true, false, cond, refl, sym, ap, ◌∙◌, subst, arith, ⊎_elim, All, AllPairs, Contains, ◌↔◌, map, filter, take-append-drop, append-nil, IsPermutation}
use Rattle.std.specs.List.{AllWithin}
use Rattle.std.proofs.lemmas.Bool.{cases_lt}
use Rattle.std.proofs.lemmas.List.{map-append, drop-drop, get_or-take, get_or-drop, map_more, flat_map_more, length-drop, length-take-le, get_or_default, take_all}
use Rattle.std.proofs.lemmas.List.Elements.{All-nil, All-head, All-tail, All-append, All-map, All-filter, All-weaker, All-contains, filter-append, filter_passes, Contains-append_left, Contains-append_right}
use Rattle.std.proofs.lemmas.List.Kept.{AllPairs-cons, AllPairs-filter}
use Rattle.solutions_dm.specs.declared.columns.Column.{Column}
use Rattle.solutions_dm.specs.declared.keys.Keyed.{Keyed}
use Rattle.solutions_dm.specs.declared.row_pair.RowPair.{RowPair}
use Rattle.solutions_dm.specs.Columns.{AreApart, compatible, IsFilled}
use Rattle.solutions_dm.specs.Keys.{key_at, is_below, rows_of, AreRows, IsKeyed}
use Rattle.solutions_dm.specs.Merge.{AreInRange}
use Rattle.solutions_dm.specs.Pairs.{IsPair, row_pairs, joined}
use Rattle.solutions_dm.specs.Table.{Table}
use Rattle.members_dm.specs.InOrder.{positions_below}
use Rattle.solutions_dm.proofs.ColumnLemmas.{compatible-true, true-compatible}
use Rattle.solutions_dm.proofs.KeyLemmas.{below_higher, lower_is_apart, higher_is_apart}
use Rattle.solutions_dm.proofs.ListLemmas.{contains_cases, contains_nothing, Contains-filter, Contains-map, pairs_head, pairs_tail, AllPairs-append, All-from_map, rows_contain}
use Rattle.members_dm.proofs.PositionLists.{positions_within, positions_apart}

module _ (left right : List Column) where
  pub row_pairs-append : (i : ℕ) (xs ys : List ℕ) → row_pairs left right i (xs ++ ys) ≡ row_pairs left right i xs ++ row_pairs left right i ys
  row_pairs-append i xs ys = ap (map (λ j. record { left = i; right = j })) (filter-append (λ j. compatible left i right j) xs ys)
      ∙ map-append _ (filter (λ j. compatible left i right j) xs) (filter (λ j. compatible left i right j) ys)

  row_pairs-none : (i : ℕ) (rows : List ℕ) → All (λ j. compatible left i right j ≡ false) rows → row_pairs left right i rows ≡ []
  row_pairs-none i [] h = refl
  row_pairs-none i (j ∷ js) h =
      subst (λ b. map {B = RowPair} (λ j. record { left = i; right = j }) (cond b (j ∷ filter (λ j. compatible left i right j) js) (filter (λ j. compatible left i right j) js)) ≡ [])
      (sym (All-head (λ j. compatible left i right j ≡ false) j js h))
      (row_pairs-none i js (All-tail (λ j. compatible left i right j ≡ false) j js h))

  -- ---- what the pairs are

  Sound : ℕ → ℕ → RowPair → Type 0
  Sound m n p = (p.left < m) × (p.right < n) × (compatible left p.left right p.right ≡ true)

  row_sound : (m n i : ℕ) (rows : List ℕ) → i < m → All (λ j. j < n) rows → All (Sound m n) (row_pairs left right i rows)
  unfolding Sound
  row_sound m n i rows l h = All-map (Sound m n) (λ j. record { left = i; right = j }) (filter (λ j. compatible left i right j) rows)
      (λ k d b. (l, All-filter (λ j. compatible left i right j) (λ j. j < n) rows h k d b, filter_passes (λ j. compatible left i right j) rows k d b))

  joined_sound : (m n : ℕ) (lefts rights : List ℕ) → All (λ i. i < m) lefts → All (λ j. j < n) rights → All (Sound m n) (joined left right lefts rights)
  joined_sound m n [] rights h k = All-nil (Sound m n)
  joined_sound m n (i ∷ is) rights h k = All-append (Sound m n) (row_pairs left right i rights) (joined left right is rights)
      (row_sound m n i rights (All-head (λ i. i < m) i is h) k) (joined_sound m n is rights (All-tail (λ i. i < m) i is h) k)

  joined_complete : (lefts rights : List ℕ) (i j : ℕ) → Contains lefts i → Contains rights j → compatible left i right j ≡ true → Contains (joined left right lefts rights) (record { left = i; right = j })
  joined_complete [] rights i j h k e = absurd (contains_nothing i h)
  joined_complete (x ∷ xs) rights i j h k e = ⊎_elim
      (λ s. Contains-append_left (row_pairs left right x rights) (joined left right xs rights) (record { left = i; right = j })
      (subst (λ z. Contains (row_pairs left right z rights) (record { left = i; right = j })) (sym s)
      (Contains-map (λ j. record { left = i; right = j }) j (filter (λ j. compatible left i right j) rights) (Contains-filter (λ j. compatible left i right j) j rights k e))))
      (λ s. Contains-append_right (row_pairs left right x rights) (joined left right xs rights) (record { left = i; right = j }) (joined_complete xs rights i j s k e))
      (contains_cases x i xs h)

  -- ---- each once

  pairs_of_one : (i : ℕ) (js : List ℕ) → AllPairs (λ a b. a ≢ b) js → AllPairs (λ (p q : RowPair). p ≢ q) (map (λ j. record { left = i; right = j }) js)
  pairs_of_one i [] h = λ a b d l k. absurd (omega arith)
  pairs_of_one i (j ∷ js) h = AllPairs-cons (λ (p q : RowPair). p ≢ q) (record { left = i; right = j }) (map (λ j. record { left = i; right = j }) js)
      (All-map (λ (q : RowPair). record { left = i; right = j } ≢ q) (λ j. record { left = i; right = j }) js (λ k d l e. pairs_head (λ a b. a ≢ b) j js h k d l (ap (λ (p : RowPair). p.right) e)))
      (pairs_of_one i js (pairs_tail (λ a b. a ≢ b) j js h))

  lefts_are : (i : ℕ) (js : List ℕ) → All (λ (p : RowPair). p.left ≡ i) (map (λ j. record { left = i; right = j }) js)
  lefts_are i js = All-map (λ (p : RowPair). p.left ≡ i) (λ j. record { left = i; right = j }) js (λ k d l. refl)

  lefts_differ : (i : ℕ) (lefts rights : List ℕ) → All (λ x. i ≢ x) lefts → All (λ (p : RowPair). i ≢ p.left) (joined left right lefts rights)
  lefts_differ i [] rights h = All-nil (λ (p : RowPair). i ≢ p.left)
  lefts_differ i (x ∷ xs) rights h = All-append (λ (p : RowPair). i ≢ p.left) (row_pairs left right x rights) (joined left right xs rights)
      (All-weaker (λ (p : RowPair). p.left ≡ x) (λ (p : RowPair). i ≢ p.left) (λ p e s. All-head (λ x. i ≢ x) x xs h (s ∙ e)) (row_pairs left right x rights) (lefts_are x (filter (λ j. compatible left x right j) rights)))
      (lefts_differ i xs rights (All-tail (λ x. i ≢ x) x xs h))

  joined_once : (lefts rights : List ℕ) → AllPairs (λ a b. a ≢ b) lefts → AllPairs (λ a b. a ≢ b) rights → AllPairs (λ (p q : RowPair). p ≢ q) (joined left right lefts rights)
  joined_once [] rights h k = λ a b d l s. absurd (omega arith)
  joined_once (x ∷ xs) rights h k = AllPairs-append (λ (p q : RowPair). p ≢ q) (row_pairs left right x rights) (joined left right xs rights)
      (pairs_of_one x (filter (λ j. compatible left x right j) rights) (AllPairs-filter (λ a b. a ≢ b) (λ j. compatible left x right j) rights k))
      (joined_once xs rights (pairs_tail (λ a b. a ≢ b) x xs h) k)
      (All-weaker (λ (p : RowPair). p.left ≡ x) (λ (p : RowPair). All (λ (q : RowPair). p ≢ q) (joined left right xs rights))
      (λ p e. All-weaker (λ (q : RowPair). x ≢ q.left) (λ (q : RowPair). p ≢ q) (λ q n s. n (sym e ∙ ap (λ (p : RowPair). p.left) s)) (joined left right xs rights)
      (lefts_differ x xs rights (pairs_head (λ a b. a ≢ b) x xs h)))
      (row_pairs left right x rights) (lefts_are x (filter (λ j. compatible left x right j) rights)))

-- ---- the public clauses

module _ (left right : Table) (lefts rights : List ℕ) (permuted : IsPermutation (positions_below left.rows) lefts) (others : IsPermutation (positions_below right.rows) rights) where
  sound : All (Sound left.columns right.columns left.rows right.rows) (joined left.columns right.columns lefts rights)
  sound = joined_sound left.columns right.columns left.rows right.rows lefts rights (positions_within left.rows lefts permuted) (positions_within right.rows rights others)

  pub exact : AreApart left.columns → (p : RowPair) → Contains (joined left.columns right.columns lefts rights) p ↔ IsPair left right p
  unfolding Sound
  exact apart p = (
    (λ h. let s = All-contains (Sound left.columns right.columns left.rows right.rows) (joined left.columns right.columns lefts rights) p sound h in
        (s.0, s.1, compatible-true left.columns p.left right.columns p.right s.2)),
    (λ h. joined_complete left.columns right.columns lefts rights p.left p.right (rows_contain left.rows lefts permuted p.left h.0) (rows_contain right.rows rights others p.right h.1)
        (true-compatible left.columns p.left right.columns p.right apart h.2)),
  )

  pub once : AllPairs (λ (p q : RowPair). p ≢ q) (joined left.columns right.columns lefts rights)
  once = joined_once left.columns right.columns lefts rights (positions_apart left.rows lefts permuted) (positions_apart right.rows rights others)

  pub in_range : AreInRange left right (joined left.columns right.columns lefts rights)
  unfolding Sound
  in_range = All-weaker (Sound left.columns right.columns left.rows right.rows) (λ (p : RowPair). (p.left < left.rows) × (p.right < right.rows)) (λ p h. (h.0, h.1))
      (joined left.columns right.columns lefts rights) sound

  pub lefts_in_range : All (λ (p : RowPair). p.left < left.rows) (joined left.columns right.columns lefts rights)
  unfolding Sound
  lefts_in_range = All-weaker (Sound left.columns right.columns left.rows right.rows) (λ (p : RowPair). p.left < left.rows) (λ p h. h.0)
      (joined left.columns right.columns lefts rights) sound

-- ---- one step of the merge

-- the runs of the first a rows of left are done, and what is before s is below the keys of the others
pub record Merged (left right : Table) (L R : List Keyed) (a s : ℕ) (ps : List RowPair) : Type 0 where
  pub place : s ≤ length R
  pub passed : (k b : ℕ) (d e : Keyed) → k < s → a ≤ b → b < length L → is_below (get_or R k d).key.items (get_or L b e).key.items ≡ true
  pub pairs : ps ≡ joined left.columns right.columns (rows_of (take a L)) (rows_of R)

module _ (left right : Table) (names : List (List ℕ)) (f : All (IsFilled left.columns left.rows) names) (g : All (IsFilled right.columns right.rows) names)
    (L R : List Keyed) (ls : IsKeyed (key_at left.columns names) left.rows L) (rs : IsKeyed (key_at right.columns names) right.rows R) where
  pub left_within : AreRows left.rows L
  left_within = All-from_map (λ i. i < left.rows) (λ (k : Keyed). k.row) L (positions_within left.rows (rows_of L) ls.permuted)

  pub right_within : AreRows right.rows R
  right_within = All-from_map (λ i. i < right.rows) (λ (k : Keyed). k.row) R (positions_within right.rows (rows_of R) rs.permuted)

  pub merged_none : Merged left right L R 0 0 []
  merged_none = record { place = omega arith; passed = λ k b d e l h t. absurd (omega arith); pairs = refl }

  -- a row of left, and what is left out of its run
  module _ (a s e : ℕ) (x : Keyed) (la : a < length L) (is : x ≡ get_or L a x) (se : s ≤ e) (le : e ≤ length R)
      (low : (k : ℕ) (d : Keyed) → k < s → is_below (get_or R k d).key.items x.key.items ≡ true)
      (high : (d : Keyed) → e < length R → is_below x.key.items (get_or R e d).key.items ≡ true) where
    x_key : x.key.items ≡ key_at left.columns names x.row
    x_key = subst (λ (k : Keyed). k.key.items ≡ key_at left.columns names k.row) (sym is) (ls.keys a x la)

    pub x_row : x.row < left.rows
    x_row = subst (λ (k : Keyed). k.row < left.rows) (sym is) (left_within a x la)

    pub before_apart : (k : ℕ) (d : Keyed) → k < s → compatible left.columns x.row right.columns (get_or R k d).row ≡ false
    before_apart k d l = lower_is_apart left.columns left.rows x.row right.columns right.rows (get_or R k d).row names x_row (right_within k d (omega arith)) f g
        (subst (λ key. is_below (key_at right.columns names (get_or R k d).row) key ≡ true) x_key
        (subst (λ key. is_below key x.key.items ≡ true) (rs.keys k d (omega arith)) (low k d l)))

    pub after_apart : (k : ℕ) (d : Keyed) → e ≤ k → k < length R → compatible left.columns x.row right.columns (get_or R k d).row ≡ false
    after_apart k d h l = higher_is_apart left.columns left.rows x.row right.columns right.rows (get_or R k d).row names x_row (right_within k d l) f g
        (subst (λ key. is_below key (key_at right.columns names (get_or R k d).row) ≡ true) x_key
        (subst (λ key. is_below x.key.items key ≡ true) (rs.keys k d l)
        (below_higher x.key.items (get_or R e d).key.items (get_or R k d).key.items (high d (omega arith)) (rs.rising e k d h l))))

    front_none : row_pairs left.columns right.columns x.row (rows_of (take s R)) ≡ []
    front_none = row_pairs-none left.columns right.columns x.row (rows_of (take s R))
        (All-map (λ j. compatible left.columns x.row right.columns j ≡ false) (λ (k : Keyed). k.row) (take s R)
        (λ k d l. let small : k < s = omega (arith, l, length-take-le s R (omega arith)) in
        subst (λ (z : Keyed). compatible left.columns x.row right.columns z.row ≡ false) (sym (get_or-take s R k d small)) (before_apart k d small)))

    back_none : row_pairs left.columns right.columns x.row (rows_of (drop e R)) ≡ []
    back_none = row_pairs-none left.columns right.columns x.row (rows_of (drop e R))
        (All-map (λ j. compatible left.columns x.row right.columns j ≡ false) (λ (k : Keyed). k.row) (drop e R)
        (λ k d l. subst (λ (z : Keyed). compatible left.columns x.row right.columns z.row ≡ false) (sym (get_or-drop e R k d)) (after_apart (e + k) d (omega arith) (omega (arith, l, length-drop e R)))))

    parts : R ≡ take s R ++ (take (e - s) (drop s R) ++ drop e R)
    parts = sym (take-append-drop s R) ∙ ap (λ ys. take s R ++ ys) (sym (take-append-drop (e - s) (drop s R)) ∙ ap (λ ys. take (e - s) (drop s R) ++ ys) (drop-drop (e - s) s R ∙ ap (λ n. drop n R) (omega arith)))

    pub run_is_all : row_pairs left.columns right.columns x.row (rows_of (take (e - s) (drop s R))) ≡ row_pairs left.columns right.columns x.row (rows_of R)
    run_is_all =
        let pairs : List Keyed → List RowPair = λ ks. row_pairs left.columns right.columns x.row (rows_of ks) in
        let split : (us vs : List Keyed) → pairs (us ++ vs) ≡ pairs us ++ pairs vs = λ us vs. ap (row_pairs left.columns right.columns x.row) (map-append (λ (k : Keyed). k.row) us vs) ∙ row_pairs-append left.columns right.columns x.row (rows_of us) (rows_of vs) in
        sym (ap pairs parts ∙ split (take s R) (take (e - s) (drop s R) ++ drop e R) ∙ ap (λ ps. ps ++ pairs (take (e - s) (drop s R) ++ drop e R)) front_none
        ∙ split (take (e - s) (drop s R)) (drop e R) ∙ ap (λ ps. pairs (take (e - s) (drop s R)) ++ ps) back_none ∙ append-nil (pairs (take (e - s) (drop s R))))

    pub merged_more : (ps qs : List RowPair) → ps ≡ joined left.columns right.columns (rows_of (take a L)) (rows_of R) →
        qs ≡ ps ++ row_pairs left.columns right.columns x.row (rows_of (take (e - s) (drop s R))) → Merged left right L R (a + 1) s qs
    merged_more ps qs h k = record {
      place = omega arith;
      passed = λ i b d t l m n. below_higher (get_or R i d).key.items x.key.items (get_or L b t).key.items (low i d l)
          (subst (λ (z : Keyed). is_below (get_or L b t).key.items z.key.items ≡ false) (get_or_default L a t x la ∙ sym is) (ls.rising a b t (omega arith) n));
      pairs = k ∙ ap (λ us. us ++ row_pairs left.columns right.columns x.row (rows_of (take (e - s) (drop s R)))) h
          ∙ ap (λ us. joined left.columns right.columns (rows_of (take a L)) (rows_of R) ++ us) run_is_all
          ∙ flat_map_more (λ i. row_pairs left.columns right.columns i (rows_of R)) [] (rows_of (take a L)) x.row
          ∙ ap (λ is. joined left.columns right.columns is (rows_of R)) (sym (map_more (λ (k : Keyed). k.row) L a x la ∙ ap (λ (z : Keyed). rows_of (take a L) ++ z.row ∷ []) (sym is)));
    }

  pub merged_all : (a s : ℕ) (ps : List RowPair) → length L ≤ a → Merged left right L R a s ps → ps ≡ joined left.columns right.columns (rows_of L) (rows_of R)
  merged_all a s ps l h = h.pairs ∙ ap (λ ks. joined left.columns right.columns (rows_of ks) (rows_of R)) (take_all a L l)

  -- what is before the new start is below the key of the row
  pub all_lower : (a s t : ℕ) (x : Keyed) (key : List ℕ) (ps : List RowPair) → a < length L → x ≡ get_or L a x → key ≡ x.key.items → Merged left right L R a s ps →
      AllWithin (λ (k : Keyed). is_below k.key.items key ≡ true) R s t → (k : ℕ) (d : Keyed) → k < t → is_below (get_or R k d).key.items x.key.items ≡ true
  all_lower a s t x key ps la is e h skipped k d l = ⊎_elim
      (λ m. subst (λ (z : Keyed). is_below (get_or R k d).key.items z.key.items ≡ true) (sym is) (h.passed k a d x m (omega arith) la))
      (λ m. subst (λ key. is_below (get_or R k d).key.items key ≡ true) e (skipped k d m l))
      (cases_lt k s)
