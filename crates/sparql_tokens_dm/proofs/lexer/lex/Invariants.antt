use Rattle.std.proofs.Common.{length, chars}
use Rattle.std.specs.Prelude.{IsUtf8}
use Rattle.ntriples_reader_dm.specs.Views.{EndsWith}
use Rattle.sparql_tokens_dm.proofs.Lexing.{Read}
use Rattle.sparql_tokens_dm.proofs.lexer.lex.Given as goal

abbrev pub invariant-lex : goal.invariant-lex
invariant-lex l = Read (length l.text) (chars l.text) l.found (chars l.rest) × IsUtf8 l.rest × EndsWith (chars l.text) (chars l.rest)

abbrev pub decreases-lex : goal.decreases-lex
decreases-lex l = length (chars l.rest)
