use Rattle.std.proofs.Common.{◌+◌, ◌<◌}
use Rattle.schema_dm.specs.Drafts.{Holds, rank}
use Rattle.schema_dm.specs.declared.refusal.SchemaCause.{SchemaCause}
use Rattle.schema_dm.proofs.verdict.first_cause.Given as goal

-- none of the causes so far holds
abbrev pub invariant-loop-cause : goal.invariant-loop-cause
invariant-loop-cause l = (other : SchemaCause) → rank other < l.cause-index + 2 → ¬ Holds other l.drafts l.place l.draft
