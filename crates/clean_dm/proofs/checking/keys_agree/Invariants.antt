use Rattle.std.proofs.Common.{◌≡◌, ◌+◌, ◌<◌, ℕ, Some}
use Rattle.std.specs.Prelude.{slice_get}
use Rattle.schema_dm.specs.Schemas.{table_at}
use Rattle.schema_dm.specs.declared.table.ForeignKey.{ForeignKey}
use Rattle.clean_dm.specs.Checking.{KeyAgrees}
use Rattle.clean_dm.proofs.checking.keys_agree.Given as goal

-- the keys before agree
abbrev pub invariant-loop-place : goal.invariant-loop-place
invariant-loop-place l =
    (p : ℕ) → p < l.place → (key : ForeignKey) → slice_get (table_at l.database.tables l.table).foreign p ≡ Some key → KeyAgrees l.database l.removals l.turns l.table (p + 1) key
