use Rattle.std.proofs.Common.{◌≡◌, ◌∙◌}
use Rattle.std.proofs.lemmas.Result.{err_from_is_err_and}
use Rattle.cmd_dm.specs.Check.{check_text}
use Rattle.cmd_dm.specs.Questions.{violations_of}
use Rattle.cmd_dm.specs.Script.{write, text_work}
use Rattle.cmd_dm.proofs.Endings.{ends_after, ends_memory, ends_writes, leads_ask}
use Rattle.cmd_dm.proofs.Found.{listed_tables}
use Rattle.cmd_dm.proofs.check.run_check.Goals as goal

pub returns-in_err-database : goal.returns-in_err-database
returns-in_err-database g c =
    let error = err_from_is_err_and c.from_residual.result c.from_residual.ensures.1 in
    rw (error.1, error.2) (c.in_err-database.ensures _ _ _)

pub returns-in_err-found : goal.returns-in_err-found
returns-in_err-found g c =
    let error = err_from_is_err_and c.from_residual-in_err-found.result c.from_residual-in_err-found.ensures.1 in
    rw (error.1, error.2) (ends_after (c.in_ok-database.ensures _) (ends_memory _ _ _ _))

pub check_text-requires : goal.check_text-requires
check_text-requires g c =
    rw (c.as_slice.ensures, c.tables.ensures.value, c.schema.ensures.value) (listed_tables c.in_ok-database.database c.in_ok-found.found c.in_ok-found.ensures.listed)

pub returns-in_err-text : goal.returns-in_err-text
returns-in_err-text g c =
    let error = err_from_is_err_and c.from_residual-in_err-text.result c.from_residual-in_err-text.ensures.1 in
    rw (error.1, error.2) (ends_after (c.in_ok-database.ensures _) (ends_memory _ _ _ _))

pub returns : goal.returns
returns g c =
    let D = c.in_ok-database.database in
    let found = c.in_ok-found.found in
    let text : c.as_bytes.result.now ≡ check_text D.tables found =
    c.as_bytes.ensures.value ∙ rw (c.as_slice.ensures, c.tables.ensures.value, c.schema.ensures.value) at c.in_ok-text.ensures in
    ends_after (c.in_ok-database.ensures _)
    (ends_after (leads_ask (violations_of D) found (λ found. write (text_work (check_text D.tables found))) _ c.in_ok-found.ensures.listed)
    (rw c.end_of_puts.ensures (rw text at (ends_writes c.as_bytes.result.now (g.S.Shelf.state c.read_database.new.shelf) c.put.result (record { puts = c.put.ensures.puts; kept = c.put.ensures.kept })))))
