use Rattle.std.proofs.Common.{◌≡◌, ◌∙◌, [], ◌∷◌, ◌++◌, cond, List, None, true, ap, subst}
use Rattle.std.specs.Prelude.{◌↔◌}
use Rattle.members_dm.specs.Membership.{IsIn}
use Rattle.table_csv.specs.Cells.{Row, cells_at}
use Rattle.table_csv.specs.Databases.{rows_at}
use Rattle.keys_dm.specs.KeyCells.{row_at}
use Rattle.keys_dm.specs.Violations.{IsRepeated}
use Rattle.keys_dm.specs.declared.violation.Violation.{Violation}
use Rattle.keys_dm.proofs.RowLevels.{primary_levels}
use Rattle.keys_dm.proofs.row.push_of_key.Goals as goal

pub returns : goal.returns
returns c =
    let value : c.rows_of-rows.result.now ≡ rows_at c.args.database.now.rows c.args.spot.table = c.rows_of-rows.ensures.value in
    let row : c.row.result.now ≡ row_at (rows_at c.args.database.now.rows c.args.spot.table) c.args.spot.row = c.row.ensures ∙ ap (λ (rows : List Row). row_at rows c.args.spot.row) value in
    let null : (c.has_null_at-null.result ≡ true) ↔ IsIn None (cells_at c.args.places.now (row_at (rows_at c.args.database.now.rows c.args.spot.table) c.args.spot.row)) =
    subst (λ (r : Row). (c.has_null_at-null.result ≡ true) ↔ IsIn None (cells_at c.args.places.now r)) row c.has_null_at-null.ensures in
    let repeated = subst (λ (rows : List Row). (c.is_repeated-repeated.result ≡ true) ↔ IsRepeated rows c.args.places.now c.args.spot.row) value c.is_repeated-repeated.ensures in
    primary_levels c.args.database.now c.args.spot.table c.args.spot.row c.args.places.now c.has_null_at-null.result c.is_repeated-repeated.result c.args.found.now c.push_if.new.found c.push_if-2.new.found c.requires.key null repeated
    (c.in_ok-push_if.ensures ∙ ap (λ (v : Violation). c.args.found.now ++ cond c.has_null_at-null.result (v ∷ []) []) c.violation_of.ensures)
    (c.in_ok-push_if-2.ensures ∙ ap (λ (v : Violation). c.push_if.new.found ++ cond c.is_repeated-repeated.result (v ∷ []) []) c.violation_of-2.ensures)
