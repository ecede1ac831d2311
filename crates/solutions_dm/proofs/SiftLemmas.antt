-- One step of a difference.
use Rattle.std.proofs.Common.{◌≡◌, ℕ, ◌≤◌, ◌<◌, ◌+◌, ◌-◌, List, [], ◌∷◌, ◌++◌, length, get_or, take, drop, Bool, true, false, not, cond, ◌||◌, ◌&&◌, refl, sym, ap, ◌∙◌, subst, arith, All, take-append-drop}
use Rattle.std.specs.List.{list_any}
use Rattle.std.proofs.lemmas.List.{map-append, drop-drop, get_or-take, get_or-drop, map_more, length-drop, length-take-le}
use Rattle.std.proofs.lemmas.List.Elements.{All-head, All-tail, All-map, filter-append}
use Rattle.solutions_dm.specs.declared.keys.Keyed.{Keyed}
use Rattle.solutions_dm.specs.Columns.{IsFilled, compatible}
use Rattle.solutions_dm.specs.Keys.{key_at, is_below, rows_of, IsKeyed}
use Rattle.solutions_dm.specs.Differences.{blocks, shares, unblocked}
use Rattle.solutions_dm.specs.Table.{Table}
use Rattle.solutions_dm.proofs.RunLemmas.{before_apart, after_apart}

any_append : (p : ℕ → Bool) (xs ys : List ℕ) → list_any p (xs ++ ys) ≡ (list_any p xs || list_any p ys)
any_append p [] ys = refl
any_append p (x ∷ xs) ys = ap (λ b. p x || b) (any_append p xs ys) ∙ sym (or_assoc (p x) (list_any p xs) (list_any p ys))
  where
    or_assoc : (a b c : Bool) → ((a || b) || c) ≡ (a || (b || c))
    or_assoc true b c = refl
    or_assoc false b c = refl

any_none : (p : ℕ → Bool) (xs : List ℕ) → All (λ j. p j ≡ false) xs → list_any p xs ≡ false
any_none p [] h = refl
any_none p (x ∷ xs) h = λ q. All-head (λ j. p j ≡ false) x xs h q || any_none p xs (All-tail (λ j. p j ≡ false) x xs h) q

module _ (left right : Table) (names : List (List ℕ)) (f : All (IsFilled left.columns left.rows) names) (g : All (IsFilled right.columns right.rows) names)
    (L R : List Keyed) (ls : IsKeyed (key_at left.columns names) left.rows L) (rs : IsKeyed (key_at right.columns names) right.rows R)
    (a s e : ℕ) (x : Keyed) (la : a < length L) (is : x ≡ get_or L a x) (se : s ≤ e) (le : e ≤ length R)
    (low : (k : ℕ) (d : Keyed) → k < s → is_below (get_or R k d).key.items x.key.items ≡ true)
    (high : (d : Keyed) → e < length R → is_below x.key.items (get_or R e d).key.items ≡ true) where
  apart_passes : (j : ℕ) → compatible left.columns x.row right.columns j ≡ false → blocks left.columns x.row right.columns j ≡ false
  apart_passes j h = ap (λ b. b && shares left.columns x.row right.columns j) h

  front_passes : list_any (λ j. blocks left.columns x.row right.columns j) (rows_of (take s R)) ≡ false
  front_passes = any_none (λ j. blocks left.columns x.row right.columns j) (rows_of (take s R))
      (All-map (λ j. blocks left.columns x.row right.columns j ≡ false) (λ (k : Keyed). k.row) (take s R)
      (λ k d l. let small : k < s = omega (arith, l, length-take-le s R (omega arith)) in
      subst (λ (z : Keyed). blocks left.columns x.row right.columns z.row ≡ false) (sym (get_or-take s R k d small))
      (apart_passes (get_or R k d).row (before_apart left right names f g L R ls rs a s e x la is se le low high k d small))))

  back_passes : list_any (λ j. blocks left.columns x.row right.columns j) (rows_of (drop e R)) ≡ false
  back_passes = any_none (λ j. blocks left.columns x.row right.columns j) (rows_of (drop e R))
      (All-map (λ j. blocks left.columns x.row right.columns j ≡ false) (λ (k : Keyed). k.row) (drop e R)
      (λ k d l. subst (λ (z : Keyed). blocks left.columns x.row right.columns z.row ≡ false) (sym (get_or-drop e R k d))
      (apart_passes (get_or R (e + k) d).row (after_apart left right names f g L R ls rs a s e x la is se le low high (e + k) d (omega arith) (omega (arith, l, length-drop e R))))))

  parts : R ≡ take s R ++ (take (e - s) (drop s R) ++ drop e R)
  parts = sym (take-append-drop s R) ∙ ap (λ ys. take s R ++ ys) (sym (take-append-drop (e - s) (drop s R)) ∙ ap (λ ys. take (e - s) (drop s R) ++ ys) (drop-drop (e - s) s R ∙ ap (λ n. drop n R) (omega arith)))

  pub any_is_all : list_any (λ j. blocks left.columns x.row right.columns j) (rows_of (take (e - s) (drop s R))) ≡ list_any (λ j. blocks left.columns x.row right.columns j) (rows_of R)
  any_is_all =
      let any : List Keyed → Bool = λ ks. list_any (λ j. blocks left.columns x.row right.columns j) (rows_of ks) in
      let split : (us vs : List Keyed) → any (us ++ vs) ≡ (any us || any vs) = λ us vs. ap (list_any (λ j. blocks left.columns x.row right.columns j)) (map-append (λ (k : Keyed). k.row) us vs) ∙ any_append _ (rows_of us) (rows_of vs) in
      sym (ap any parts ∙ split (take s R) (take (e - s) (drop s R) ++ drop e R) ∙ ap (λ b. b || any (take (e - s) (drop s R) ++ drop e R)) front_passes
      ∙ split (take (e - s) (drop s R)) (drop e R) ∙ ap (λ b. any (take (e - s) (drop s R)) || b) back_passes ∙ or_none (any (take (e - s) (drop s R))))
    where
      or_none : (b : Bool) → (b || false) ≡ b
      or_none true = refl
      or_none false = refl

  pub sifted_more : (kept more : List ℕ) (blocked : Bool) → kept ≡ unblocked left.columns right.columns (rows_of (take a L)) (rows_of R) →
      blocked ≡ list_any (λ j. blocks left.columns x.row right.columns j) (rows_of (take (e - s) (drop s R))) → more ≡ kept ++ cond (not blocked) (x.row ∷ []) [] →
      more ≡ unblocked left.columns right.columns (rows_of (take (a + 1) L)) (rows_of R)
  sifted_more kept more blocked h b k =
      k ∙ (λ q. h q ++ cond (not ((b ∙ any_is_all) q)) (x.row ∷ []) [])
      ∙ sym (filter-append (λ i. not (list_any (λ j. blocks left.columns i right.columns j) (rows_of R))) (rows_of (take a L)) (x.row ∷ []))
      ∙ ap (λ is. unblocked left.columns right.columns is (rows_of R)) (sym (map_more (λ (k : Keyed). k.row) L a x la ∙ ap (λ (z : Keyed). rows_of (take a L) ++ z.row ∷ []) (sym is)))
