use Rattle.std.proofs.Common.{◌≡◌, ◌∙◌, List, [], length, ap, arith}
use Rattle.std.specs.Prelude.{sum_by}
use Rattle.std.proofs.lemmas.List.{take_all}
use Rattle.std.proofs.lemmas.List.Sums.{sum_by_more}
use Rattle.schema_dm.specs.declared.table.Table.{Table}
use Rattle.table_csv.specs.Cells.{Row}
use Rattle.table_csv.specs.Databases.{rows_at}
use Rattle.bench_lines_dm.proofs.PlainLimits.{few_rows}
use Rattle.bench_lines_dm.proofs.PlainTables.{paired_count}
use Rattle.bench_lines_dm.proofs.lines.row_count.Goals as goal

pub overflow_add-count : goal.overflow_add-count
overflow_add-count c =
    let ends : length c.tables-t-end.result.now ≡ length c.args.database.now.tables = ap (λ (tables : List Table). length tables) (c.tables-t-end.ensures.value ∙ c.schema.ensures.value) in
    let short = few_rows c.args.database.now.tables c.args.database.now.rows c.loop-t.t c.schema.ensures.fits.rows in
    let count : c.len-count.result ≡ length (rows_at c.args.database.now.rows c.loop-t.t) = c.len-count.ensures ∙ ap (λ (rows : List Row). length rows) c.rows_of.ensures.value in
    let few = c.schema.ensures.fits.schema.few in
    omega arith

pub loop-t-preserved : goal.loop-t-preserved
loop-t-preserved c =
    let ends : length c.tables-t-end.result.now ≡ length c.args.database.now.tables = ap (λ (tables : List Table). length tables) (c.tables-t-end.ensures.value ∙ c.schema.ensures.value) in
    let short = few_rows c.args.database.now.tables c.args.database.now.rows c.loop-t.t c.schema.ensures.fits.rows in
    let count : c.len-count.result ≡ length (rows_at c.args.database.now.rows c.loop-t.t) = c.len-count.ensures ∙ ap (λ (rows : List Row). length rows) c.rows_of.ensures.value in
    let as_many = paired_count _ c.args.database.now.tables c.args.database.now.rows c.schema.ensures.fits.rows in
    let more = sum_by_more (λ (rows : List Row). length rows) c.args.database.now.rows c.loop-t.t [] (omega arith) in
    (omega arith, omega arith)

pub returns : goal.returns
returns c =
    let ends : length c.tables-t-end.result.now ≡ length c.args.database.now.tables = ap (λ (tables : List Table). length tables) (c.tables-t-end.ensures.value ∙ c.schema.ensures.value) in
    let as_many = paired_count _ c.args.database.now.tables c.args.database.now.rows c.schema.ensures.fits.rows in
    c.loop-t.invariant.0 ∙ ap (λ (rows : List (List Row)). sum_by length rows) (take_all c.loop-t.t c.args.database.now.rows (omega arith))
