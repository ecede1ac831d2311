use Rattle.std.proofs.Common.{Err, subst}
use Rattle.sparql_text_dm.specs.Telling.{IsParsed}
use Rattle.grammar_dm.specs.declared.read_error.ReadError.{ReadError}
use Rattle.sparql_tokens_dm.specs.declared.token.Placed.{Placed}
use Rattle.sparql_text_dm.proofs.Telling.{fault_is_told, whole_is_told}
use Rattle.sparql_text_dm.proofs.answer.judged.Goals as goal

pub returns-in-Ok : goal.returns-in-Ok
returns-in-Ok c = rw c.whole.ensures (whole_is_told c.args.kept.now c.args.end c.in-Ok.found c.in-Ok.ensures)

pub returns-in-Err-At : goal.returns-in-Err-At
returns-in-Err-At c =
    rw c.fault.ensures (fault_is_told c.args.kept.now c.in-Err-At.rest.now c.args.end
    (subst (λ (e : ReadError Placed). IsParsed c.args.kept.now (Err e)) c.in-Err-At.field-0-is c.in-Err-At.ensures).0)
