use Rattle.std.proofs.Common.{ℕ, List, subst}
use Rattle.table_csv.specs.TableFiles.{IsFirstFault, records_of}
use Rattle.cmd_dm.proofs.StepLaws.{rows_end, rows_read}
use Rattle.cmd_dm.proofs.steps.read_rows.Goals as goal

pub returns-in-Ok-clause-step : goal.returns-in-Ok-clause-step
returns-in-Ok-clause-step c = λ state next.
    rows_read c.args.table.now.columns c.args.nulls c.args.number c.args.bytes.now c.requires c.in-Ok.rows (rw c.as_slice.ensures at c.in-Ok.ensures.ok) state next

pub returns-in-Err-clause-step : goal.returns-in-Err-clause-step
returns-in-Err-clause-step c = λ state target next out.
    rw c.table_status.ensures
    (rows_end c.args.table.now.columns c.args.nulls c.args.number c.args.bytes.now c.requires c.in-Err.error
    (subst (λ (bytes : List ℕ). IsFirstFault c.args.table.now.columns c.args.nulls (records_of bytes) c.in-Err.error) c.as_slice.ensures c.in-Err.ensures.refused) state target next out)
