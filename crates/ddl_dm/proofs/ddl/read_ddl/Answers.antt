use Rattle.std.proofs.Common.{subst, List}
use Rattle.std.proofs.lemmas.Result.{err_from_is_err_and}
use Rattle.ddl_syntax_dm.specs.declared.syntax.Statement.{Statement}
use Rattle.ddl_dm.specs.Schema.{IsDeclared}
use Rattle.ddl_dm.proofs.SchemaLaws.{is_schema_read, syntax_is_told}
use Rattle.ddl_dm.proofs.ddl.read_ddl.Goals as goal

pub returns-in_err-statements : goal.returns-in_err-statements
returns-in_err-statements c =
    let error = err_from_is_err_and c.from_residual.result c.from_residual.ensures.1 in
    rw (error.1, error.2) (syntax_is_told c.args.bytes.now c.in_err-statements.field-0.0 c.in_err-statements.ensures)

pub returns : goal.returns
returns c =
    let P : List Statement → Type 0 = λ statements. IsDeclared statements c.declared.result in
    is_schema_read c.args.bytes.now c.in_ok-statements.statements c.declared.result c.in_ok-statements.ensures.0
    (subst P c.as_slice.ensures c.declared.ensures)
