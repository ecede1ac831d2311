use Rattle.std.proofs.Common.{◌≡◌, ◌≤◌, length, chars, string_bytes}
use Rattle.ddl_tokens_dm.specs.Scanning.{quoted_at}
use Rattle.ddl_tokens_dm.specs.Views.{with_front}
use Rattle.std.specs.Prelude.{IsUtf8}
use Rattle.ddl_tokens_dm.proofs.lexer.quoted.Given as goal

abbrev pub invariant-quoted : goal.invariant-quoted
invariant-quoted l = (with_front (chars (string_bytes l.name)) (quoted_at (chars l.rest)) ≡ quoted_at (chars l.text)) × IsUtf8 l.rest × (length l.rest ≤ length l.text)

abbrev pub decreases-quoted : goal.decreases-quoted
decreases-quoted l = length l.rest
