use Rattle.std.proofs.Common.{◌≡◌}
use Rattle.schema_dm.proofs.indexed.index_each.Given as goal

-- the drafts so far
abbrev pub invariant-loop-draft : goal.invariant-loop-draft
invariant-loop-draft l = l.indexed.items ≡ l.yielded
