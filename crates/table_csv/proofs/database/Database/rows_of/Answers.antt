use Rattle.std.proofs.Common.{◌∙◌, ◌≡◌, ◌<◌, [], ap, length, get_or, arith}
use Rattle.table_csv.specs.Cells.{AreRowsOf}
use Rattle.table_csv.specs.Databases.{Data}
use Rattle.table_csv.proofs.Zips.{one_read, zipped_length}
use Rattle.table_csv.proofs.database.Database.rows_of.Goals as goal

pub bounds-as_slice-table : goal.bounds-as_slice-table
bounds-as_slice-table c =
    let tables : length c.self.inside.schema ≡ length c.args.self.now.tables = ap (λ (d : Data). length d.tables) c.self.view_is in
    let lists = zipped_length (λ table rows. AreRowsOf table.columns rows) c.self.inside.schema c.self.inside.rows c.self.invariant.rows in
    rw c.as_slice.ensures (omega (arith, tables, lists, c.requires))

pub returns-clause-value : goal.returns-clause-value
returns-clause-value c =
    let tables : length c.self.inside.schema ≡ length c.args.self.now.tables = ap (λ (d : Data). length d.tables) c.self.view_is in
    let lists = zipped_length (λ table rows. AreRowsOf table.columns rows) c.self.inside.schema c.self.inside.rows c.self.invariant.rows in
    let below : c.args.table < length c.self.inside.rows = omega (arith, tables, lists, c.requires) in
    rw c.as_slice.ensures at c.index-as_slice-table.is ∙ one_read c.self.inside.rows c.args.table _ _ below ∙ ap (λ (d : Data). get_or d.rows c.args.table []) c.self.view_is
