-- The rows of the stacked columns are those of both.
use Rattle.std.proofs.Common.{◌≡◌, ℕ, ◌≤◌, ◌<◌, ◌+◌, ◌-◌, List, length, sym, ap, ◌∙◌, subst, arith, ⊎_elim, ◌⊎◌, inl, inr, ◌↔◌, length-append}
use Rattle.std.specs.Prelude.{slice_index}
use Rattle.std.proofs.lemmas.Bool.{cases_lt}
use Rattle.std.proofs.lemmas.List.{get_or_append_left, get_or-append_right}
use Rattle.solutions_dm.specs.Columns.{number_at, AreApart, HaveRows}
use Rattle.solutions_dm.specs.Table.{Table, IsTable, HasRow, numbers_in}
use Rattle.solutions_dm.specs.Joint.{built, joint, stacked}
use Rattle.solutions_dm.proofs.ColumnLemmas.{number_at_none}
use Rattle.solutions_dm.proofs.JointLemmas.{row_is, joint_apart, joint_filled}
use Rattle.solutions_dm.proofs.NumberLemmas.{numbers_long, numbers_at}

module _ (left right : Table) where
  abbrev f : List ℕ → List ℕ
  f = stacked left right

  abbrev m : ℕ
  m = left.rows

  abbrev n : ℕ
  n = right.rows

  stacked_left : (x : List ℕ) (i : ℕ) → i < m → slice_index (f x) i ≡ number_at left.columns i x
  stacked_left x i l = get_or_append_left (numbers_in left x) (numbers_in right x) 0 i (omega (arith, numbers_long left x)) ∙ numbers_at left x i l

  stacked_right : (x : List ℕ) (i : ℕ) → m ≤ i → i < m + n → slice_index (f x) i ≡ number_at right.columns (i - m) x
  stacked_right x i l k = get_or-append_right (numbers_in left x) (numbers_in right x) m i 0 (numbers_long left x) l ∙ numbers_at right x (i - m) (omega arith)

  row_left : (i : ℕ) → i < m → (x : List ℕ) → number_at (built f (joint left.columns right.columns)) i x ≡ number_at left.columns i x
  row_left i l x = row_is f left.columns right.columns x i (number_at left.columns i x) (stacked_left x i l) (λ a b. number_at_none left.columns i x a)

  row_right : (i : ℕ) → m ≤ i → i < m + n → (x : List ℕ) → number_at (built f (joint left.columns right.columns)) i x ≡ number_at right.columns (i - m) x
  row_right i l k x = row_is f left.columns right.columns x i (number_at right.columns (i - m) x) (stacked_right x i l k) (λ a b. number_at_none right.columns (i - m) x b)

  pub union_rows : (r : ℕ) → r ≡ m + n → (w : List ℕ → ℕ) →
      HasRow (record { columns = built f (joint left.columns right.columns); rows = r }) w ↔ (HasRow left w ⊎ HasRow right w)
  union_rows r er w = (
    (λ h. ⊎_elim
        (λ k. inl (h.0, k, λ x. h.2 x ∙ row_left h.0 k x))
        (λ k. inr (h.0 - m, omega (arith, k, h.1, er), λ x. h.2 x ∙ row_right h.0 k (omega (arith, h.1, er)) x))
        (cases_lt h.0 m)),
    (λ h. ⊎_elim
        (λ k. (k.0, omega (arith, k.1, er), λ x. k.2 x ∙ sym (row_left k.0 k.1 x)))
        (λ k. (m + k.0, omega (arith, k.1, er), λ x. k.2 x ∙ sym (row_right (m + k.0) (omega arith) (omega (arith, k.1)) x ∙ ap (λ j. number_at right.columns j x) (omega arith))))
        h),
  )

  stacked_long : (x : List ℕ) → length (f x) ≡ m + n
  stacked_long x = omega (arith, length-append (numbers_in left x) (numbers_in right x), numbers_long left x, numbers_long right x)

  pub union_table : (r : ℕ) → r ≡ m + n → AreApart left.columns → AreApart right.columns → IsTable (record { columns = built f (joint left.columns right.columns); rows = r })
  union_table r er al ar = record {
    filled = subst (HaveRows (built f (joint left.columns right.columns))) (sym er) (joint_filled f left.columns right.columns (m + n) stacked_long);
    apart = joint_apart f left.columns right.columns al ar;
  }
