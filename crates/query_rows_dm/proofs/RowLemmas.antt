-- Rows of numbers and the tuples that they stand for.
use Rattle.std.proofs.Common.{◌≡◌, ◌≢◌, ◌<◌, ◌+◌, ◌⊎◌, ℕ, zero, suc, List, [], ◌∷◌, Bool, true, false, refl, sym, ap, ◌∙◌, subst, arith, inl, inr, ⊎_elim, length}
use mathlib.Core.Path.{fun_ext}
use Rattle.std.specs.Str.{bytes_eq}
use Rattle.std.proofs.lemmas.Slice.Eq.{bytes_eq-Decides}
use Rattle.std.proofs.lemmas.Bool.{both_ways}
use Rattle.members_dm.specs.Membership.{IsIn}
use Rattle.value_dm.specs.declared.value.Value.{Value}
use Rattle.schema_dm.specs.Naming.{Name}
use Rattle.names_dm.specs.Variables.{variable_of}
use Rattle.solutions_dm.specs.Columns.{number_at}
use Rattle.solutions_dm.specs.Table.{Table, HasRow}
use Rattle.algebra_dm.specs.Tuples.{Tuple}
use Rattle.query_rows_dm.specs.Numbers.{AreGrown, AreOneToOne, cell_of}
use Rattle.query_rows_dm.specs.Relations.{Numbers, Reads, AreNumbers, IsRelation}
use Rattle.query_rows_dm.specs.declared.relation.Relation.{Relation}
use Rattle.query_rows_dm.proofs.NumberLemmas.{one_number, still_cell, still_number}

-- ---- lists of names and variables

pub same_or_not : (x y : List ℕ) → (x ≡ y) ⊎ (x ≢ y)
same_or_not x y = go (bytes_eq x y) refl
  where
    go : (b : Bool) → bytes_eq x y ≡ b → (x ≡ y) ⊎ (x ≢ y)
    go true e = inl ((bytes_eq-Decides x y).0 e)
    go false e = inr (λ s. both_ways _ e ((bytes_eq-Decides x y).1 s))

pub in_or_not : (x : List ℕ) (xs : List (List ℕ)) → IsIn x xs ⊎ (¬ IsIn x xs)
in_or_not x [] = inr (λ h. h)
in_or_not x (y ∷ ys) = ⊎_elim
    (λ e. inl (inl e))
    (λ n. ⊎_elim (λ h. inl (inr h)) (λ k. inr (λ h. ⊎_elim n k h)) (in_or_not x ys))
    (same_or_not y x)

pub zero_unless : (n : ℕ) → (n ≢ 0 → ⊥) → n ≡ 0
zero_unless zero h = refl
zero_unless (suc n) h = absurd (h (λ e. omega (arith, e)))

pub zero_or_not : (n : ℕ) → (n ≡ 0) ⊎ (n ≢ 0)
zero_or_not zero = inl refl
zero_or_not (suc n) = inr (λ e. omega (arith, e))

-- ---- rows

pub row_as : (s : Table) (m n : Numbers) → ((x : List ℕ) → m x ≡ n x) → HasRow s n → HasRow s m
row_as s m n e h = (h.0, h.1, λ x. e x ∙ h.2 x)

pub row_here : (s : Table) (i : ℕ) → i < s.rows → HasRow s (number_at s.columns i)
row_here s i l = (i, l, λ x. refl)

pub same_rows : (m n : Numbers) → ((x : List ℕ) → m x ≡ n x) → m ≡ n
same_rows m n e = fun_ext e

-- ---- the numbers of a row

module _ (values : List Value) (variables : List (List ℕ)) where
  pub numbers_as : (m n : Numbers) → ((x : List ℕ) → m x ≡ n x) → AreNumbers values variables n → AreNumbers values variables m
  numbers_as m n e h = subst (AreNumbers values variables) (sym (same_rows m n e)) h

  module _ (m : Numbers) (h : AreNumbers values variables m) where
    pub zero_outside : (x : List ℕ) → ¬ IsIn x variables → m x ≡ 0
    zero_outside x k = zero_unless (m x) (λ n. k (h.others x n))

    pub number_within : (x : List ℕ) → m x < length values + 2
    number_within x = ⊎_elim (λ k. (h.bound x k).within) (λ k. omega (arith, zero_outside x k)) (in_or_not x variables)

  -- ---- two rows that read one tuple are the same

  module _ (one : AreOneToOne values) (w : Tuple) (m n : Numbers) (h : AreNumbers values variables m) (k : AreNumbers values variables n)
      (named : (x : List ℕ) → IsIn x variables → (a : Name) × (variable_of a ≡ x)) (reads : Reads values m w) (also : Reads values n w) where
    pub same_inside : (x : List ℕ) → IsIn x variables → m x ≡ n x
    same_inside x here =
        let a = named x here in
        one_number values one (m x) (n x) (h.bound x here) (k.bound x here)
        (ap (λ y. cell_of values (m y)) (sym a.1) ∙ sym (reads a.0) ∙ also a.0 ∙ ap (λ y. cell_of values (n y)) a.1)

    pub same_numbers : (x : List ℕ) → m x ≡ n x
    same_numbers x = ⊎_elim (λ here. same_inside x here) (λ out. zero_outside m h x out ∙ sym (zero_outside n k x out)) (in_or_not x variables)

-- ---- the values have grown

module _ (old new : List Value) (g : AreGrown old new) where
  pub numbers_grown : (variables : List (List ℕ)) (m : Numbers) → AreNumbers old variables m → AreNumbers new variables m
  numbers_grown variables m h = record { bound = λ x k. still_number old new g (m x) (h.bound x k); others = h.others }

  pub relation_grown : (A : Name → Type 0) (P : Tuple → Type 0) (r : Relation) → IsRelation old A P r → IsRelation new A P r
  relation_grown A P r h = record {
    some = h.some;
    owned = h.owned;
    attributes = h.attributes;
    once = h.once;
    numbers = λ m row. numbers_grown r.attributes m (h.numbers m row);
    exact = λ w. (
      (λ t. (h.exact w).0 (t.0, t.1, λ a. t.2 a ∙ still t.0 t.1 (variable_of a))),
      (λ p. let t = (h.exact w).1 p in (t.0, t.1, λ a. t.2 a ∙ sym (still t.0 t.1 (variable_of a)))),
    );
  }
    where
      still : (m : Numbers) → HasRow r.rows m → (x : List ℕ) → cell_of new (m x) ≡ cell_of old (m x)
      still m row x = still_cell old new g (m x) (number_within old r.attributes m (h.numbers m row) x)
