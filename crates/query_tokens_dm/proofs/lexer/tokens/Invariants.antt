use Rattle.std.proofs.Common.{◌≤◌, length}
use Rattle.query_tokens_dm.proofs.Lexing.{Read}
use Rattle.query_tokens_dm.proofs.lexer.tokens.Given as goal

abbrev pub invariant-tokens : goal.invariant-tokens
invariant-tokens l = Read l.bytes l.found l.before l.rest × (length l.rest ≤ length l.bytes)

abbrev pub decreases-tokens : goal.decreases-tokens
decreases-tokens l = length l.rest
