use Rattle.std.proofs.Common.{◌≡◌, ◌≤◌, length, chars}
use Rattle.ddl_tokens_dm.specs.Kinds.{kind_test}
use Rattle.ddl_tokens_dm.specs.Scanning.{run_of}
use Rattle.std.specs.Prelude.{IsUtf8}
use Rattle.ddl_tokens_dm.proofs.lexer.skip_run.Given as goal

abbrev pub invariant-run : goal.invariant-run
invariant-run l = ((run_of (kind_test l.kind) (chars l.rest)).1 ≡ (run_of (kind_test l.kind) (chars l.text)).1) × IsUtf8 l.rest × (length l.rest ≤ length l.text)

abbrev pub decreases-run : goal.decreases-run
decreases-run l = length l.rest
