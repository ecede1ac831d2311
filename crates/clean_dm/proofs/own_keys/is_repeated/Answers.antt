use Rattle.std.proofs.Common.{◌≡◌, true}
use Rattle.std.specs.Prelude.{None}
use Rattle.members_dm.specs.Membership.{IsIn}
use Rattle.table_csv.specs.Cells.{cells_at}
use Rattle.keys_dm.specs.KeyCells.{row_at}
use Rattle.clean_dm.proofs.own_keys.is_repeated.Goals as goal

pub returns-then-not-has_null_at : goal.returns-then-not-has_null_at
returns-then-not-has_null_at c =
    let told = rw c.row.ensures at c.has_null_at.ensures in
    let whole : ¬ IsIn None (cells_at c.args.places.now (row_at c.args.rows.now c.args.position)) = λ null. let yes : c.has_null_at.result ≡ true = told.1 null in let no = c.if-not-has_null_at.true in cc in
    let twin = c.has_twin.ensures c.args.rows.now c.args.places.now c.requires.index c.requires.row in
    ((λ h. (whole, twin.0 h)), (λ h. twin.1 h.1))
