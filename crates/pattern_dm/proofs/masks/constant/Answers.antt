use Rattle.std.proofs.Common.{◌≡◌, true, not, sym, subst}
use Rattle.pattern_dm.specs.Masks.{Marks}
use Rattle.pattern_dm.proofs.MaskLemmas.{marks_all}
use Rattle.pattern_dm.proofs.masks.constant.Goals as goal

pub returns : goal.returns
returns c = record {
  holds = subst (Marks c.args.rows (λ _. c.args.value ≡ true)) (sym c.in_ok-holds.ensures) (marks_all c.args.rows c.args.value);
  fails = subst (Marks c.args.rows (λ _. not c.args.value ≡ true)) (sym c.in_ok-fails.ensures) (marks_all c.args.rows (not c.args.value));
}
