use Rattle.std.proofs.Common.{ℕ, ◌≡◌, ◌<◌, length}
use Rattle.members_dm.specs.Places.{IsListing}
use Rattle.table_csv.specs.Databases.{rows_at}
use Rattle.clean_dm.specs.Kept.{IsKept, StandsIn}
use Rattle.clean_dm.proofs.keeping.kept.Given as goal

abbrev pub invariant-loop-table : goal.invariant-loop-table
invariant-loop-table l = (length l.lists ≡ l.table) × ((t : ℕ) → t < l.table → IsListing (StandsIn l.database (IsKept l.gone) t) (rows_at l.lists t))
