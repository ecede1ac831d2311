use Rattle.std.proofs.Common.{take}
use Rattle.members_dm.specs.Membership.{IsIn}
use Rattle.keys_dm.specs.declared.violation.Violation.{Violation}
use Rattle.clean_dm.specs.Checking.{StaysWrongly}
use Rattle.clean_dm.proofs.checking.stay_unique.Given as goal

-- of those before no row stays wrongly
abbrev pub invariant-loop-violation : goal.invariant-loop-violation
invariant-loop-violation l = (violation : Violation) → IsIn violation (take l.violation-index l.violation-items) → StaysWrongly l.database l.turns violation → ⊥
