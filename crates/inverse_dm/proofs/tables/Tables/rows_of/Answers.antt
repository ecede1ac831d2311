use Rattle.std.proofs.Common.{◌≡◌, ◌∙◌, ◌<◌, List, [], ap, length, sym, arith}
use Rattle.std.proofs.lemmas.List.{get_or_read}
use Rattle.table_csv.specs.Cells.{Row}
use Rattle.table_csv.specs.Databases.{rows_at}
use Rattle.inverse_dm.specs.Parts.{rows_of}
use Rattle.inverse_dm.proofs.TableParts.{count_seen, rows_seen}
use Rattle.inverse_dm.proofs.tables.Tables.rows_of.Goals as goal

pub bounds-as_slice-table : goal.bounds-as_slice-table
bounds-as_slice-table c =
    let count = count_seen c.args.self.now c.self.inside.shape c.self.inside.rows (sym c.self.view_is) c.self.invariant in
    let same : length c.as_slice.result.now ≡ length c.self.inside.rows = ap (λ (rows : List (List Row)). length rows) c.as_slice.ensures in
    let below : c.args.table < length c.args.self.now = c.requires in
    omega arith

pub returns : goal.returns
returns c =
    let seen : c.as_slice.result.now ≡ rows_of c.args.self.now = c.as_slice.ensures ∙ rows_seen c.args.self.now c.self.inside.shape c.self.inside.rows (sym c.self.view_is) c.self.invariant in
    let count = count_seen c.args.self.now c.self.inside.shape c.self.inside.rows (sym c.self.view_is) c.self.invariant in
    let same : length c.as_slice.result.now ≡ length c.self.inside.rows = ap (λ (rows : List (List Row)). length rows) c.as_slice.ensures in
    let below : c.args.table < length c.args.self.now = c.requires in
    get_or_read c.as_slice.result.now c.args.table _ (omega arith) c.index-as_slice-table.is [] ∙ ap (λ (rows : List (List Row)). rows_at rows c.args.table) seen
