use Rattle.std.proofs.Common.{◌≡◌, take}
use Rattle.std.specs.List.{flat_map}
use Rattle.ddl_dm.specs.Building.{own_drafts}
use Rattle.ddl_dm.proofs.drafts.own_drafts.Given as goal

-- the drafts of the statements so far
abbrev pub invariant-loop-statement : goal.invariant-loop-statement
invariant-loop-statement l = l.drafts.items ≡ flat_map own_drafts (take l.statement-index l.statements)
