use Rattle.std.proofs.Common.{◌≡◌, true}
use Rattle.std.specs.Prelude.{None}
use Rattle.members_dm.specs.Membership.{IsIn}
use Rattle.table_csv.specs.Cells.{cells_at}
use Rattle.table_csv.specs.Databases.{rows_at}
use Rattle.keys_dm.specs.Entries.{positions_of}
use Rattle.clean_dm.specs.RowSets.{Has}
use Rattle.clean_dm.proofs.FirstKey.{dangles_by_rows}
use Rattle.clean_dm.proofs.LoneRows.{lone_rows}
use Rattle.clean_dm.proofs.dangling.is_dangling.Goals as goal

pub has_left-requires : goal.has_left-requires
has_left-requires c =
    let whole : ¬ IsIn None (cells_at c.args.key.now.columns c.args.row.now) = λ null. let told : c.has_null_at.result ≡ true = c.has_null_at.ensures.1 null in let no = c.if-has_null_at.false in cc in
    lone_rows c.args.database.now c.args.left.now c.requires.unique c.args.table c.args.key.now (cells_at c.args.key.now.columns c.args.row.now) (positions_of c.referenced-referenced.result.now) c.requires.lawful c.referenced-referenced.ensures whole

pub returns : goal.returns
returns c =
    let whole : ¬ IsIn None (cells_at c.args.key.now.columns c.args.row.now) = λ null. let told : c.has_null_at.result ≡ true = c.has_null_at.ensures.1 null in let no = c.if-has_null_at.false in cc in
    dangles_by_rows (Has c.args.left.now c.args.key.now.target) (rows_at c.args.database.now.rows c.args.key.now.target) c.args.key.now c.args.row.now (positions_of c.referenced-referenced.result.now) c.has_left.result c.referenced-referenced.ensures whole c.has_left.ensures
