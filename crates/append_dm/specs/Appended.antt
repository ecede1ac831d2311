-- A database with the rows of a batch behind its own. Tables and rows are counted from 0.
use Rattle.std.specs.Prelude.{◌≡◌, ◌≤◌, ◌+◌, ◌++◌, ℕ, length, map}
use Rattle.members_dm.specs.InOrder.{positions_below}
use Rattle.table_csv.specs.Databases.{Data, rows_at}

-- the tables of the database, each with its rows and behind them those of the batch
abbrev pub appended : Data → Data → Data
appended old batch = record { tables = old.tables; rows = map (λ t. rows_at old.rows t ++ rows_at batch.rows t) (positions_below (length old.tables)) }

-- a batch is of the same tables, and leaves no table with more than 4,194,304 rows
pub record IsBatchFor (old batch : Data) : Type 0 where
  pub tables : batch.tables ≡ old.tables
  pub few : (t : ℕ) → length (rows_at old.rows t) + length (rows_at batch.rows t) ≤ 4194304
