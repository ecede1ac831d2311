use Rattle.std.proofs.Common.{Option, map, subst}
use Rattle.std.specs.Prelude.{IfSome, string_bytes}
use Rattle.cmd_dm.specs.Plans.{IsWithin}
use Rattle.cmd_dm.specs.declared.command.Command.{Command}
use Rattle.cmd_dm.proofs.WithinWords.{within_words}
use Rattle.cmd_dm.proofs.top.decide.Goals as goal

pub run_command-requires : goal.run_command-requires
run_command-requires g c = subst (λ (o : Option Command). IfSome o IsWithin) c.in-Ok.ensures.ok (within_words (map string_bytes c.args.words.now))
