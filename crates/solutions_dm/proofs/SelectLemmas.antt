-- Columns under other names.
use Rattle.std.proofs.Common.{◌≡◌, ℕ, ◌<◌, List, [], ◌∷◌, cond, ◌||◌, refl, sym, ap, ◌∙◌, ◌↔◌, map}
use Rattle.std.specs.Str.{bytes_eq}
use Rattle.solutions_dm.specs.declared.columns.Column.{Column}
use Rattle.solutions_dm.specs.declared.selects.Rename.{Rename}
use Rattle.solutions_dm.specs.Columns.{number_at, has_column, AreApart, HaveRows}
use Rattle.solutions_dm.specs.Selects.{selected, is_target, AreTargetsApart, selected_column}
use Rattle.solutions_dm.specs.Table.{Table, IsTable, HasRow}
use Rattle.solutions_dm.proofs.NumberLemmas.{numbers_long, numbers_at}

module _ (t : Table) where
  number_selected : (rs : List Rename) (i : ℕ) (x : List ℕ) → i < t.rows → number_at (map (selected_column t) rs) i x ≡ selected rs (number_at t.columns i) x
  number_selected [] i x l = refl
  number_selected (r ∷ rs) i x l = λ q. cond (bytes_eq r.to x) (numbers_at t r.from i l q) (number_selected rs i x l q)

  filled : (rs : List Rename) → HaveRows (map (selected_column t) rs) t.rows
  filled [] = tt
  filled (r ∷ rs) = (numbers_long t r.from, filled rs)

  targets : (rs : List Rename) (x : List ℕ) → has_column (map (selected_column t) rs) x ≡ is_target rs x
  targets [] x = refl
  targets (r ∷ rs) x = ap (λ b. bytes_eq r.to x || b) (targets rs x)

  apart : (rs : List Rename) → AreTargetsApart rs → AreApart (map (selected_column t) rs)
  apart [] h = tt
  apart (r ∷ rs) h = (targets rs r.to ∙ h.0, apart rs h.1)

  pub selected_table : (rs : List Rename) → AreTargetsApart rs → IsTable (record { columns = map (selected_column t) rs; rows = t.rows })
  selected_table rs h = record { filled = filled rs; apart = apart rs h }

  pub selected_rows : (rs : List Rename) (m : List ℕ → ℕ) → HasRow (record { columns = map (selected_column t) rs; rows = t.rows }) m ↔ ((i : ℕ) × (i < t.rows) × ((x : List ℕ) → m x ≡ selected rs (number_at t.columns i) x))
  selected_rows rs m = ((λ h. (h.0, h.1, (λ x. h.2 x ∙ number_selected rs h.0 x h.1))), (λ h. (h.0, h.1, (λ x. h.2 x ∙ sym (number_selected rs h.0 x h.1)))))
