use Rattle.std.proofs.Common.{ℕ, ◌<◌}
use Rattle.schema_dm.specs.Relations.{IsSideAt}
use Rattle.schema_dm.proofs.relation.side.Given as goal

-- none of the keys so far is a side
abbrev pub invariant-loop-number : goal.invariant-loop-number
invariant-loop-number l = (j : ℕ) → j < l.number → ¬ IsSideAt l.tables l.keys l.place j
