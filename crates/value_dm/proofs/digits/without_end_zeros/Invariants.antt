use Rattle.std.proofs.Common.{◌≡◌, ◌≤◌, ◌++◌, ◌-◌, length, take}
use Rattle.std.specs.Prelude.{replicate}
use Rattle.value_dm.proofs.digits.without_end_zeros.Given as goal

-- what follows the end is zeros alone
abbrev pub invariant-loop-end : goal.invariant-loop-end
invariant-loop-end l = record {
  inside : l.end ≤ length l.digits;
  zeros : l.digits ≡ take l.end l.digits ++ replicate (length l.digits - l.end) 48;
}

abbrev pub decreases-loop-end : goal.decreases-loop-end
decreases-loop-end l = l.end
