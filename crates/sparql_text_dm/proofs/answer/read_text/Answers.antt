use Rattle.std.proofs.Common.{List, subst}
use Rattle.sparql_tokens_dm.specs.declared.token.Placed.{Placed}
use Rattle.sparql_text_dm.specs.declared.answer.End.{End}
use Rattle.sparql_text_dm.specs.Depth.{IsCut}
use Rattle.sparql_text_dm.specs.Telling.{IsTold}
use Rattle.sparql_text_dm.proofs.Telling.{is_answer}
use Rattle.sparql_text_dm.proofs.answer.read_text.Goals as goal

pub returns : goal.returns
returns c =
    is_answer c.args.bytes.now c.in_ok-found.found c.before_too_nested-deep.result.0.now c.in_ok-found.stop c.before_too_nested-deep.result.1 c.judged.result c.in_ok-found.ensures.tokens
    (subst (λ (ts : List Placed). IsCut ts c.before_too_nested-deep.result.0.now c.before_too_nested-deep.result.1) c.as_slice.ensures c.before_too_nested-deep.ensures)
    (subst (λ (e : End). IsTold c.before_too_nested-deep.result.0.now e c.judged.result) c.end_of.ensures c.judged.ensures)
