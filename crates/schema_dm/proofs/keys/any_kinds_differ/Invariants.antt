use Rattle.std.proofs.Common.{drop}
use Rattle.schema_dm.specs.Drafts.{AnyKindsDiffer}
use Rattle.schema_dm.proofs.keys.any_kinds_differ.Given as goal

-- a pair of different kinds stands in what is left, if anywhere
abbrev pub invariant-loop-i : goal.invariant-loop-i
invariant-loop-i l = AnyKindsDiffer l.draft.columns l.names l.target.columns l.targets → AnyKindsDiffer l.draft.columns (drop l.i l.names) l.target.columns (drop l.i l.targets)
