use Rattle.std.proofs.Common.{◌≤◌, length, chars}
use Rattle.std.specs.Prelude.{IsUtf8}
use Rattle.ddl_tokens_dm.proofs.Lexing.{Read}
use Rattle.ddl_tokens_dm.proofs.lexer.lex.Given as goal

abbrev pub invariant-lex : goal.invariant-lex
invariant-lex l = Read l.total (chars l.text) l.found (chars l.rest) × IsUtf8 l.rest × (length l.rest ≤ l.total)

abbrev pub decreases-lex : goal.decreases-lex
decreases-lex l = length l.rest
