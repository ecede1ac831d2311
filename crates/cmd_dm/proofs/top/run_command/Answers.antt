use Rattle.std.proofs.Common.{subst}
use Rattle.cmd_dm.specs.Plans.{IsWithin}
use Rattle.cmd_dm.proofs.top.run_command.Goals as goal

pub returns-in-Invert : goal.returns-in-Invert
returns-in-Invert g c = rw c.in-Invert.is (c.run_invert.ensures (g.K.Sink.state c.args.out.now))

pub run_bench-requires : goal.run_bench-requires
run_bench-requires g c = subst IsWithin c.in-Bench.is c.requires

pub returns-in-Bench : goal.returns-in-Bench
returns-in-Bench g c = rw c.in-Bench.is (c.run_bench.ensures (g.S.Shelf.state c.args.shelf.now))
