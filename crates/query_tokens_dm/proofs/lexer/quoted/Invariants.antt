use Rattle.std.proofs.Common.{◌≡◌, ◌≤◌, length}
use Rattle.ddl_tokens_dm.specs.Scanning.{quoted_at}
use Rattle.ddl_tokens_dm.specs.Views.{with_front}
use Rattle.query_tokens_dm.proofs.lexer.quoted.Given as goal

abbrev pub invariant-quoted : goal.invariant-quoted
invariant-quoted l = (with_front l.bytes.items (quoted_at l.rest) ≡ quoted_at l.text) × (length l.rest ≤ length l.text)

abbrev pub decreases-quoted : goal.decreases-quoted
decreases-quoted l = length l.rest
