use Rattle.std.proofs.Common.{◌≡◌, ◌≤◌, length, chars, string_bytes}
use Rattle.std.specs.Prelude.{IsUtf8}
use Rattle.ddl_tokens_dm.specs.Scanning.{run_of}
use Rattle.ddl_tokens_dm.specs.Views.{run_with}
use Rattle.sparql_tokens_dm.specs.Scanning.{run_test}
use Rattle.sparql_tokens_dm.proofs.words.longest_run.Given as goal

abbrev pub invariant-run : goal.invariant-run
invariant-run l = (run_with (chars (string_bytes l.name)) (run_of (run_test l.kind) (chars l.rest)) ≡ run_of (run_test l.kind) (chars l.text)) × IsUtf8 l.rest × (length l.rest ≤ length l.text)

abbrev pub decreases-run : goal.decreases-run
decreases-run l = length l.rest
