use Rattle.std.proofs.Common.{Err, subst}
use Rattle.grammar_dm.specs.declared.read_error.ReadError.{ReadError}
use Rattle.grammar_dm.specs.Exits.{IsJudged}
use Rattle.ddl_tokens_dm.specs.declared.token.Placed.{Placed}
use Rattle.ddl_syntax_dm.specs.Grammar.{file}
use Rattle.ddl_syntax_dm.proofs.Telling.{whole_is_told, fault_is_told}
use Rattle.ddl_syntax_dm.proofs.file.judged.Goals as goal

pub returns-in-Ok : goal.returns-in-Ok
returns-in-Ok c = rw c.whole.ensures (whole_is_told c.args.found.now c.args.stop c.args.end c.in-Ok.statements c.in-Ok.ensures)

pub returns-in-Err-At : goal.returns-in-Err-At
returns-in-Err-At c =
    rw c.told.ensures (fault_is_told c.args.found.now c.in-Err-At.rest.now c.in-Err-At.at_type c.args.stop c.args.end
    (subst (λ (e : ReadError Placed). IsJudged file c.args.found.now (Err e)) c.in-Err-At.field-0-is c.in-Err-At.ensures))
