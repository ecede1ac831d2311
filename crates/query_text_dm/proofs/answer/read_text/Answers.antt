use Rattle.std.proofs.Common.{List, subst}
use Rattle.query_tokens_dm.specs.declared.token.Placed.{Placed}
use Rattle.query_text_dm.specs.declared.answer.End.{End}
use Rattle.query_text_dm.specs.Depth.{IsCut}
use Rattle.query_text_dm.specs.Telling.{IsTold}
use Rattle.query_text_dm.proofs.Telling.{is_syntax_answer}
use Rattle.query_text_dm.proofs.answer.read_text.Goals as goal

pub returns : goal.returns
returns c =
    is_syntax_answer c.args.bytes.now c.in_ok-found.found c.before_too_deep-deep.result.0.now c.in_ok-found.stop c.before_too_deep-deep.result.1 c.judged.result c.in_ok-found.ensures.tokens
    (subst (λ (ts : List Placed). IsCut ts c.before_too_deep-deep.result.0.now c.before_too_deep-deep.result.1) c.as_slice.ensures c.before_too_deep-deep.ensures)
    (subst (λ (e : End). IsTold c.before_too_deep-deep.result.0.now e c.judged.result) c.end_of.ensures c.judged.ensures)
