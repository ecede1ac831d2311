use Rattle.pattern_dm.proofs.MaskLemmas.{marks_none}
use Rattle.pattern_dm.proofs.masks.errors.Goals as goal

pub returns : goal.returns
returns c = record {
  holds = marks_none c.args.rows c.in_ok-holds.holds.items c.in_ok-holds.ensures;
  fails = marks_none c.args.rows c.in_ok-fails.fails.items c.in_ok-fails.ensures;
}
