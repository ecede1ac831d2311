use Rattle.std.proofs.Common.{Some, length}
use Rattle.sparql_tokens_dm.proofs.Lexing.{front_tokens, stop_is, whole_tokens}
use Rattle.sparql_tokens_dm.proofs.Unique.{only_tokens}
use Rattle.sparql_tokens_dm.proofs.lexer.tokens.Goals as goal

pub returns-then-text-bytes : goal.returns-then-text-bytes
returns-then-text-bytes c =
    only_tokens c.args.bytes.now c.in_ok-found.found c.in_ok-found.stop
    (whole_tokens c.args.bytes.now c.text_front-text.result.now c.in_ok-found.found c.in_ok-found.stop c.text_front-text.ensures c.if-text-bytes.true c.in_ok-found.ensures)

pub returns-else-text-bytes : goal.returns-else-text-bytes
returns-else-text-bytes c =
    only_tokens c.args.bytes.now c.in_ok-found.found (Some c.unwrap_or.result)
    (rw (stop_is c.in_ok-found.stop (length c.text_front-text.result.now) c.unwrap_or.result c.unwrap_or.ensures) (front_tokens c.args.bytes.now c.text_front-text.result.now c.in_ok-found.found c.in_ok-found.stop c.text_front-text.ensures c.if-text-bytes.false c.in_ok-found.ensures))
