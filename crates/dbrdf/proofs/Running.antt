-- A run of words that are known by another name.
use Rattle.std.proofs.Common.{◌≡◌, subst, ℕ, List}
use Rattle.cmd_dm.specs.declared.status.Status.{Status}
use Rattle.dbrdf.specs.Program.{Devices, Ran}

pub ran_same : (words others : List (List ℕ)) (old new : Devices) (status : Status) → words ≡ others → Ran words old new status → Ran others old new status
ran_same words others old new status same ran = subst (λ (w : List (List ℕ)). Ran w old new status) same ran
