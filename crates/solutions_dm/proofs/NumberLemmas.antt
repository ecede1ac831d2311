-- The numbers of one variable in all rows.
use Rattle.std.proofs.Common.{◌≡◌, ℕ, ◌<◌, zero, suc, List, [], ◌∷◌, ◌++◌, length, get_or, false, refl, sym, ap, ◌∙◌, arith, ⊎_elim, map}
use Rattle.std.specs.Prelude.{slice_index}
use Rattle.std.proofs.lemmas.Bool.{cases_lt}
use Rattle.std.proofs.lemmas.List.{get_or-map, length-map, get_or_append_left, get_or_push, length_push, ext_get_or}
use Rattle.members_dm.specs.InOrder.{positions_below}
use Rattle.solutions_dm.specs.Columns.{number_at, has_column}
use Rattle.solutions_dm.specs.Table.{Table, numbers_in}
use Rattle.solutions_dm.proofs.ColumnLemmas.{number_at_none}

pub positions_long : (n : ℕ) → length (positions_below n) ≡ n
positions_long zero = refl
positions_long (suc n) = let l = length_push (positions_below n) n in omega (arith, l, positions_long n)

positions_at : (n i : ℕ) → i < n → get_or (positions_below n) i 0 ≡ i
positions_at zero i l = absurd (omega arith)
positions_at (suc n) i l = ⊎_elim
    (λ k. get_or_append_left (positions_below n) (n ∷ []) 0 i (omega (arith, positions_long n)) ∙ positions_at n i k)
    (λ k. let e : i ≡ n = omega arith in ap (λ j. get_or (positions_below n ++ n ∷ []) j 0) e ∙ get_or_push (positions_below n) n 0 n (positions_long n) ∙ sym e)
    (cases_lt i n)

pub numbers_long : (t : Table) (x : List ℕ) → length (numbers_in t x) ≡ t.rows
numbers_long t x = length-map (positions_below t.rows) (λ i. number_at t.columns i x) ∙ positions_long t.rows

pub numbers_at : (t : Table) (x : List ℕ) (i : ℕ) → i < t.rows → slice_index (numbers_in t x) i ≡ number_at t.columns i x
numbers_at t x i l = get_or-map (λ i. number_at t.columns i x) (positions_below t.rows) i 0 0 (omega (arith, l, positions_long t.rows)) ∙ ap (λ i. number_at t.columns i x) (positions_at t.rows i l)

-- the numbers of a variable without a column, and those of a column
pub unbound_numbers : (t : Table) (x : List ℕ) → has_column t.columns x ≡ false → map (λ _. 0) (positions_below t.rows) ≡ numbers_in t x
unbound_numbers t x e = λ q. map (λ i. sym (number_at_none t.columns i x e) q) (positions_below t.rows)

pub column_numbers : (t : Table) (x numbers : List ℕ) → length numbers ≡ t.rows → ((i : ℕ) → number_at t.columns i x ≡ slice_index numbers i) → numbers ≡ numbers_in t x
column_numbers t x numbers long each = ext_get_or 0 numbers (numbers_in t x) (long ∙ sym (numbers_long t x))
    (λ i l. sym (each i) ∙ sym (numbers_at t x i (omega (arith, l, long))))
