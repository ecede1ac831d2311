use Rattle.std.proofs.Common.{List, length, ◌+◌, subst}
use Rattle.ddl_tokens_dm.specs.declared.token.Placed.{Placed}
use Rattle.ddl_syntax_dm.specs.Answer.{IsTold}
use Rattle.ddl_syntax_dm.proofs.Telling.{is_read}
use Rattle.ddl_syntax_dm.proofs.file.read_statements.Goals as goal

pub returns : goal.returns
returns c =
    is_read c.args.bytes.now c.in_ok-found.found c.in_ok-found.stop c.judged.result c.in_ok-found.ensures.0 c.in_ok-found.ensures.1 c.in_ok-found.ensures.2
    (subst (λ (ts : List Placed). IsTold ts c.in_ok-found.stop (length c.args.bytes.now + 1) c.judged.result) c.as_slice.ensures c.judged.ensures)
