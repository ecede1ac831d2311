-- Columns made variable by variable, of the variables of two tables.
use Rattle.std.proofs.Common.{◌≡◌, ℕ, List, [], ◌∷◌, ◌++◌, length, Bool, true, false, not, cond, ◌||◌, refl, sym, ap, ◌∙◌, ⊎_elim, ◌⊎◌, inl, inr, map, filter}
use Rattle.std.specs.Prelude.{slice_index}
use Rattle.std.specs.Str.{bytes_eq}
use Rattle.std.proofs.lemmas.Slice.Eq.{bytes_eq-Decides}
use Rattle.std.proofs.lemmas.Bool.{cases_Bool, or_parts, or_left, or_right, or_cases, both_ways, false_from_ne_true}
use Rattle.solutions_dm.specs.declared.columns.Column.{Column}
use Rattle.solutions_dm.specs.Columns.{number_at, has_column, names_of, AreApart, HaveRows}
use Rattle.solutions_dm.specs.Joint.{joint, built}
use Rattle.solutions_dm.proofs.ColumnLemmas.{number_at_none}

module _ (f : List ℕ → List ℕ) (left right : List Column) where
  -- which variables the built columns have
  has_built : (names : List (List ℕ)) (x : List ℕ) → has_column (built f names) x ≡ true → (i : ℕ) → number_at (built f names) i x ≡ slice_index (f x) i
  has_built [] x e i = absurd (both_ways false refl e)
  has_built (y ∷ names) x e i = go (bytes_eq y x) refl (or_cases (bytes_eq y x) (has_column (built f names) x) e) (λ k. has_built names x k i)
    where
      go : (b : Bool) → bytes_eq y x ≡ b → (bytes_eq y x ≡ true) ⊎ (has_column (built f names) x ≡ true) → (has_column (built f names) x ≡ true → number_at (built f names) i x ≡ slice_index (f x) i) →
          cond b (slice_index (f y) i) (number_at (built f names) i x) ≡ slice_index (f x) i
      go true e h more = ap (λ z. slice_index (f z) i) ((bytes_eq-Decides y x).0 e)
      go false e (inl s) more = absurd (both_ways _ e s)
      go false e (inr s) more = more s

  has_append : (xs ys : List (List ℕ)) (x : List ℕ) → has_column (built f (xs ++ ys)) x ≡ (has_column (built f xs) x || has_column (built f ys) x)
  has_append [] ys x = refl
  has_append (y ∷ xs) ys x = ap (λ b. bytes_eq y x || b) (has_append xs ys x) ∙ sym (or_assoc (bytes_eq y x) (has_column (built f xs) x) (has_column (built f ys) x))
    where
      or_assoc : (a b c : Bool) → ((a || b) || c) ≡ (a || (b || c))
      or_assoc true b c = refl
      or_assoc false b c = refl

  has_names : (cs : List Column) (x : List ℕ) → has_column (built f (names_of cs)) x ≡ has_column cs x
  has_names [] x = refl
  has_names (c ∷ cs) x = ap (λ b. bytes_eq c.name x || b) (has_names cs x)

  -- a filter takes no variable that its test passes
  has_filter : (p : List ℕ → Bool) (names : List (List ℕ)) (x : List ℕ) → p x ≡ true → has_column (built f (filter p names)) x ≡ has_column (built f names) x
  has_filter p [] x e = refl
  has_filter p (y ∷ names) x e = go (p y) refl (has_filter p names x e)
    where
      go : (b : Bool) → p y ≡ b → has_column (built f (filter p names)) x ≡ has_column (built f names) x →
          has_column (built f (cond b (y ∷ filter p names) (filter p names))) x ≡ (bytes_eq y x || has_column (built f names) x)
      go true s more = ap (λ b. bytes_eq y x || b) more
      go false s more = more ∙ ap (λ b. b || has_column (built f names) x) (sym (false_from_ne_true _ (λ k. both_ways _ s (ap p ((bytes_eq-Decides y x).0 k) ∙ e))))

  has_filtered : (p : List ℕ → Bool) (names : List (List ℕ)) (x : List ℕ) → p x ≡ false → has_column (built f (filter p names)) x ≡ false
  has_filtered p [] x e = refl
  has_filtered p (y ∷ names) x e = go (p y) refl (has_filtered p names x e)
    where
      go : (b : Bool) → p y ≡ b → has_column (built f (filter p names)) x ≡ false → has_column (built f (cond b (y ∷ filter p names) (filter p names))) x ≡ false
      go true s more = ap (λ b. b || has_column (built f (filter p names)) x) (false_from_ne_true _ (λ k. both_ways _ e (sym (ap p ((bytes_eq-Decides y x).0 k)) ∙ s))) ∙ more
      go false s more = more

  abbrev pub columns : List Column
  columns = built f (joint left right)

  has_joint : (x : List ℕ) → has_column columns x ≡ (has_column left x || has_column right x)
  has_joint x = has_append (names_of left) (filter (λ x. not (has_column left x)) (names_of right)) x ∙ ap (λ b. b || has_column (built f (filter (λ x. not (has_column left x)) (names_of right))) x) (has_names left x)
      ∙ go (has_column left x) refl
    where
      go : (b : Bool) → has_column left x ≡ b → (b || has_column (built f (filter (λ x. not (has_column left x)) (names_of right))) x) ≡ (b || has_column right x)
      go true e = refl
      go false e = has_filter (λ x. not (has_column left x)) (names_of right) x (ap not e) ∙ has_names right x

  pub row_is : (x : List ℕ) (i : ℕ) (k : ℕ) → (slice_index (f x) i ≡ k) → (has_column left x ≡ false → has_column right x ≡ false → k ≡ 0) → number_at columns i x ≡ k
  row_is x i k e absent = ⊎_elim
      (λ h. has_built (joint left right) x h i ∙ e)
      (λ h. let p = or_parts (has_column left x) (has_column right x) (sym (has_joint x) ∙ h) in number_at_none columns i x h ∙ sym (absent p.0 p.1))
      (cases_Bool (has_column columns x))

  apart_names : (cs : List Column) → AreApart cs → AreApart (built f (names_of cs))
  apart_names [] a = tt
  apart_names (c ∷ cs) a = (has_names cs c.name ∙ a.0, apart_names cs a.1)

  apart_filter : (p : List ℕ → Bool) (names : List (List ℕ)) → AreApart (built f names) → AreApart (built f (filter p names))
  apart_filter p [] a = tt
  apart_filter p (y ∷ names) a = go (p y) refl (apart_filter p names a.1)
    where
      go : (b : Bool) → p y ≡ b → AreApart (built f (filter p names)) → AreApart (built f (cond b (y ∷ filter p names) (filter p names)))
      go true e more = (has_filter p names y e ∙ a.0, more)
      go false e more = more

  apart_append : (xs ys : List (List ℕ)) → AreApart (built f xs) → AreApart (built f ys) → ((x : List ℕ) → has_column (built f xs) x ≡ true → has_column (built f ys) x ≡ false) → AreApart (built f (xs ++ ys))
  apart_append [] ys a b no_both = b
  apart_append (x ∷ xs) ys a b no_both = (
    has_append xs ys x ∙ ap (λ c. c || has_column (built f ys) x) a.0 ∙ no_both x (or_left _ _ ((bytes_eq-Decides x x).1 refl)),
    apart_append xs ys a.1 b (λ z h. no_both z (or_right _ _ h)),
  )

  pub joint_apart : AreApart left → AreApart right → AreApart columns
  joint_apart al ar = apart_append (names_of left) (filter (λ x. not (has_column left x)) (names_of right)) (apart_names left al) (apart_filter (λ x. not (has_column left x)) (names_of right) (apart_names right ar))
      (λ x h. has_filtered (λ x. not (has_column left x)) (names_of right) x (ap not (sym (has_names left x) ∙ h)))

  -- each column has this many numbers
  pub joint_filled : (r : ℕ) → ((x : List ℕ) → length (f x) ≡ r) → HaveRows columns r
  joint_filled r long = go (joint left right)
    where
      go : (names : List (List ℕ)) → HaveRows (built f names) r
      go [] = tt
      go (y ∷ names) = (long y, go names)
