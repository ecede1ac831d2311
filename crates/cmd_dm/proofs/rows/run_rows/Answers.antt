use Rattle.std.proofs.Common.{List, subst}
use Rattle.std.proofs.lemmas.Result.{err_from_is_err_and}
use Rattle.schema_dm.specs.declared.table.Table.{Table}
use Rattle.algebra_dm.specs.Nodes.{IsWellFormed}
use Rattle.cmd_dm.specs.Questions.{lines_of}
use Rattle.cmd_dm.specs.Script.{write, text_work}
use Rattle.cmd_dm.proofs.Endings.{ends_after, ends_memory, ends_writes, leads_ask}
use Rattle.cmd_dm.proofs.rows.run_rows.Goals as goal

pub returns-in_err-database : goal.returns-in_err-database
returns-in_err-database g c =
    let error = err_from_is_err_and c.from_residual.result c.from_residual.ensures.1 in
    rw (error.1, error.2) (c.in_err-database.ensures _ _ _)

pub returns-in_err-query : goal.returns-in_err-query
returns-in_err-query g c =
    let error = err_from_is_err_and c.from_residual-in_err-query.result c.from_residual-in_err-query.ensures.1 in
    rw (error.1, error.2) (ends_after (c.in_ok-database.ensures _) ((rw c.schema.ensures.value at c.in_err-query.ensures.step) _ _ _))

pub query_lines-requires : goal.query_lines-requires
query_lines-requires g c = subst (λ (tables : List Table). IsWellFormed tables c.in_ok-query.query) c.schema.ensures.value c.in_ok-query.ensures.formed

pub returns-in_err-text : goal.returns-in_err-text
returns-in_err-text g c =
    let error = err_from_is_err_and c.from_residual-in_err-text.result c.from_residual-in_err-text.ensures.1 in
    rw (error.1, error.2) (ends_after (c.in_ok-database.ensures _) (ends_after ((rw c.schema.ensures.value at c.in_ok-query.ensures.step) _) (ends_memory _ _ _ _)))

pub returns : goal.returns
returns g c =
    let D = c.in_ok-database.database in
    let q = c.in_ok-query.query in
    let text = c.in_ok-text.text in
    ends_after (c.in_ok-database.ensures _)
    (ends_after ((rw c.schema.ensures.value at c.in_ok-query.ensures.step) _)
    (ends_after (leads_ask (lines_of D q) text.items (λ text. write (text_work text)) _ c.in_ok-text.ensures)
    (rw c.end_of_puts.ensures (rw c.as_slice.ensures.value at (ends_writes c.as_slice.result.now (g.S.Shelf.state c.load_query.new.shelf) c.put.result (record { puts = c.put.ensures.puts; kept = c.put.ensures.kept }))))))
