use Rattle.std.proofs.Common.{ap, ◌∙◌, arith, chars}
use Rattle.std.proofs.lemmas.Str.{chars-nil}
use Rattle.ddl_tokens_dm.specs.Scanning.{run_of}
use Rattle.ddl_tokens_dm.specs.Views.{run_with}
use Rattle.sparql_tokens_dm.specs.Scanning.{run_test}
use Rattle.sparql_tokens_dm.proofs.words.longest_run.Goals as goal

pub run-init : goal.run-init
run-init c = (
  ap (λ us. run_with us (run_of (run_test c.args.kind) (chars c.args.text.now))) (ap chars c.new-name.ensures.bytes ∙ chars-nil),
  c.utf8.text,
  omega arith,
)
