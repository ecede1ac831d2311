use Rattle.std.proofs.Common.{subst, List, sym, ◌∙◌}
use Rattle.std.proofs.lemmas.Result.{err_from_is_err_and}
use Rattle.schema_dm.specs.declared.draft.TableDraft.{TableDraft}
use Rattle.schema_dm.specs.Schemas.{IsRefusedWith}
use Rattle.ddl_dm.proofs.SchemaLaws.{fault_is_told}
use Rattle.ddl_dm.proofs.ddl.declared.Goals as goal

pub returns-in_err-new : goal.returns-in_err-new
returns-in_err-new c =
    let error = err_from_is_err_and c.from_residual-in_err-new.result c.from_residual-in_err-new.ensures.1 in
    let P : List TableDraft → Type 0 = λ drafts. IsRefusedWith drafts c.in_err-new.field-0.0 in
    rw (error.1, error.2) (fault_is_told c.args.statements.now c.in_err-new.field-0.0 (sym c.unknown_alter.ensures ∙ c.in-None.is) (subst P c.in_ok-drafts.ensures c.in_err-new.ensures.refused))
