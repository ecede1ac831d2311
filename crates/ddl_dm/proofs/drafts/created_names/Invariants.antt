use Rattle.std.proofs.Common.{◌≡◌, take}
use Rattle.ddl_dm.specs.Building.{created_names}
use Rattle.ddl_dm.proofs.drafts.created_names.Given as goal

-- the names of the statements so far
abbrev pub invariant-loop-statement : goal.invariant-loop-statement
invariant-loop-statement l = l.names.items ≡ created_names (take l.statement-index l.statements)
