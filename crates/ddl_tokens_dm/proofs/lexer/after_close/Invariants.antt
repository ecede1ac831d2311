use Rattle.std.proofs.Common.{◌≡◌, ◌≤◌, length, chars}
use Rattle.ddl_tokens_dm.specs.Scanning.{after_close}
use Rattle.std.specs.Prelude.{IsUtf8}
use Rattle.ddl_tokens_dm.proofs.lexer.after_close.Given as goal

abbrev pub invariant-close : goal.invariant-close
invariant-close l = (after_close (chars l.rest) ≡ after_close (chars l.text)) × IsUtf8 l.rest × (length l.rest ≤ length l.text)

abbrev pub decreases-close : goal.decreases-close
decreases-close l = length l.rest
