use Rattle.std.proofs.Common.{◌≡◌, ◌==◌, ◌||◌, ◌-◌, ◌≤◌, not, length, take, drop}
use lib.Lanes.{zip2}
use Rattle.lanes_dm.specs.Flags.{flag}
use Rattle.lanes_dm.proofs.columns.and_into.Given as goal

abbrev pub invariant-wide : goal.invariant-wide
invariant-wide l = record {
  within : l.at ≤ length l.b;
  long : length l.a ≡ length l.b;
  done : take l.at l.a ≡ zip2 (λ x y. flag (not (x == 0 || y == 0))) (take l.at l.fn.a) (take l.at l.b);
  left : drop l.at l.a ≡ drop l.at l.fn.a;
}

abbrev pub decreases-wide : goal.decreases-wide
decreases-wide l = length l.b - l.at

abbrev pub invariant-rest : goal.invariant-rest
invariant-rest l = record {
  within : l.at ≤ length l.b;
  long : length l.a ≡ length l.b;
  done : take l.at l.a ≡ zip2 (λ x y. flag (not (x == 0 || y == 0))) (take l.at l.fn.a) (take l.at l.b);
  left : drop l.at l.a ≡ drop l.at l.fn.a;
}

abbrev pub decreases-rest : goal.decreases-rest
decreases-rest l = length l.b - l.at
