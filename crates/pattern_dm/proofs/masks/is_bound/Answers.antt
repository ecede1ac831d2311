use Rattle.pattern_dm.proofs.MaskLemmas.{marks_bound, marks_number}
use Rattle.pattern_dm.proofs.masks.is_bound.Goals as goal

pub returns : goal.returns
returns c = record {
  holds = marks_bound c.args.numbers.now c.in_ok-holds.holds.items c.in_ok-holds.ensures;
  fails = marks_number c.args.numbers.now c.in_ok-fails.fails.items 0 c.in_ok-fails.ensures;
}
