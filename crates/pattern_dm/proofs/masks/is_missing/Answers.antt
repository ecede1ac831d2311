use Rattle.std.proofs.Common.{length}
use Rattle.pattern_dm.proofs.MaskLemmas.{marks_bound, marks_none}
use Rattle.pattern_dm.proofs.masks.is_missing.Goals as goal

pub returns : goal.returns
returns c = record {
  holds = marks_none (length c.args.numbers.now) c.in_ok-holds.holds.items c.in_ok-holds.ensures;
  fails = marks_bound c.args.numbers.now c.in_ok-fails.fails.items c.in_ok-fails.ensures;
}
