use Rattle.std.proofs.Common.{◌<◌, ℕ}
use Rattle.clean_dm.specs.Checking.{KeysAgree}
use Rattle.clean_dm.proofs.checking.tables_agree.Given as goal

-- the tables before agree
abbrev pub invariant-loop-table : goal.invariant-loop-table
invariant-loop-table l = (t : ℕ) → t < l.table → KeysAgree l.database l.removals l.turns t
