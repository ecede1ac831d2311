use Rattle.std.proofs.Common.{◌≡◌, ℕ, ◌<◌, Some}
use Rattle.std.specs.Prelude.{slice_get}
use Rattle.schema_dm.specs.Drafts.{IsSound}
use Rattle.schema_dm.specs.declared.draft.TableDraft.{TableDraft}
use Rattle.schema_dm.proofs.verdict.first_error.Given as goal

-- no cause holds of the drafts so far
abbrev pub invariant-loop-place : goal.invariant-loop-place
invariant-loop-place l = (j : ℕ) (other : TableDraft) → j < l.place → slice_get l.drafts j ≡ Some other → IsSound l.drafts j other
