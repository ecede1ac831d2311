use Rattle.std.proofs.Common.{◌≡◌, [], take}
use Rattle.ddl_dm.proofs.Altering.{drafts_with}
use Rattle.ddl_dm.proofs.drafts.add_all_altered.Given as goal

-- the drafts with the keys of the statements so far
abbrev pub invariant-loop-statement : goal.invariant-loop-statement
invariant-loop-statement l = l.drafts.items ≡ drafts_with (take l.statement-index l.statements) [] l.statements
