use Rattle.std.proofs.Common.{◌≡◌, ◌∙◌, ap, subst, List}
use Rattle.table_csv.specs.Cells.{Row, cells_at}
use Rattle.table_csv.specs.Databases.{rows_at}
use Rattle.keys_dm.specs.Entries.{positions_of}
use Rattle.keys_dm.specs.KeyCells.{AreRowsWith, row_at}
use Rattle.clean_dm.proofs.ReferenceLemmas.{matching_if_ok}
use Rattle.clean_dm.proofs.candidates.add_matching.Goals as goal

pub returns : goal.returns
returns c =
    let row : c.row-cells.result.now ≡ row_at (rows_at c.args.database.now.rows c.args.table) c.args.row = c.row-cells.ensures ∙ ap (λ (rows : List Row). row_at rows c.args.row) c.rows_of.ensures.value in
    let found : AreRowsWith (rows_at c.args.database.now.rows c.args.reference.now.table) c.args.reference.now.key.columns (cells_at c.args.reference.now.key.target_columns (row_at (rows_at c.args.database.now.rows c.args.table) c.args.row)) (positions_of c.matches-found.result.now) =
    subst (λ (r : Row). AreRowsWith (rows_at c.args.database.now.rows c.args.reference.now.table) c.args.reference.now.key.columns (cells_at c.args.reference.now.key.target_columns r) (positions_of c.matches-found.result.now)) row
    (subst (λ (rows : List Row). AreRowsWith rows c.args.reference.now.key.columns (cells_at c.args.reference.now.key.target_columns c.row-cells.result.now) (positions_of c.matches-found.result.now)) c.rows_of-rows.ensures.value c.matches-found.ensures) in
    matching_if_ok c.args.database.now c.args.due.now c.add_rows.new.set c.args.table c.args.row c.args.reference.now (positions_of c.matches-found.result.now) c.add_rows.result c.requires.reference c.requires.due found c.add_rows.ensures
