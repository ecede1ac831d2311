use Rattle.std.proofs.Common.{ℕ, List, Err, subst}
use Rattle.ddl_dm.specs.Schema.{IsSchemaRead}
use Rattle.cmd_dm.proofs.StepLaws.{schema_ends, schema_reads}
use Rattle.cmd_dm.proofs.steps.read_schema.Goals as goal

pub returns-in-Ok : goal.returns-in-Ok
returns-in-Ok c = λ state next. schema_reads c.args.bytes.now c.in-Ok.schema (rw c.as_slice.ensures at c.in-Ok.ensures).0 state next

pub returns-in-Err : goal.returns-in-Err
returns-in-Err c = λ state target next out. rw c.ddl_status.ensures (schema_ends c.args.bytes.now c.in-Err.error (subst (λ (bytes : List ℕ). IsSchemaRead bytes (Err c.in-Err.error)) c.as_slice.ensures c.in-Err.ensures) state target next out)
