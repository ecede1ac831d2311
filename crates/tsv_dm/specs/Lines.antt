-- Rows in their order, and the lines of a text.
use Rattle.std.specs.Prelude.{◌≡◌, ◌↔◌, ℕ, List, [], ◌∷◌, ◌++◌, Option, map, nat_eq}
use Rattle.std.specs.List.{flat_map}
use Rattle.std.specs.Ordering.{eq_by_cmp, nat_cmp}
use Rattle.std.specs.Cmp.Lexicographic.{lists_ties, pointwise, slice_cmp, texts_ties}
use Rattle.std.specs.declared.cmp.Ordering.TheVariants.{Less}
use Rattle.members_dm.specs.Membership.{IsIn, IsRising, SameItems}
use Rattle.names_dm.specs.declared.term.Term.{Term}
use Rattle.tsv_dm.specs.Cells.{cell_text, name_cell}

-- the texts of a row's cells
abbrev pub Row : Type 0
Row = List (List ℕ)

-- two rows are in neither order exactly where their cells are the same
pub rows_tie : (x y : Row) → pointwise (pointwise nat_eq) x y ≡ eq_by_cmp (slice_cmp (slice_cmp nat_cmp)) x y
rows_tie = lists_ties (slice_cmp nat_cmp) texts_ties

-- the first of the rows' cells that differ is before the other one, by their bytes, or the first row ends before
unfoldable pub IsBefore : Row → Row → Type 0
IsBefore x y = slice_cmp (slice_cmp nat_cmp) x y ≡ Less

-- the same rows, each once and in order
pub record AreRising (rows sorted : List Row) : Type 0 where
  pub rising : IsRising IsBefore sorted
  pub same : SameItems sorted rows

-- the cells with a tab between two, and LF
abbrev pub line : Row → List ℕ
line [] = 10 ∷ []
line (cell ∷ cells) = cell ++ flat_map (λ c. 9 ∷ c) cells ++ 10 ∷ []

-- the line of the header's variables, and then a line for each different row, in order
pub record IsTsv (header : List (List ℕ)) (grid : List (List (Option Term))) (text : List ℕ) : Type 0 where
  pub rows : List Row
  pub are_rising : AreRising (map (map cell_text) grid) rows
  pub lines : text ≡ line (map name_cell header) ++ flat_map line rows
