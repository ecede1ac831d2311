-- How many tables there are at most, and how many columns and rows of each.
use Rattle.std.specs.Prelude.{◌<◌, List, length}
use Rattle.members_dm.specs.Membership.{IsIn}
use Rattle.table_csv.specs.Plain.{PlainTable}
use Rattle.inverse_dm.specs.declared.error.InverseError.{InverseError}
use Rattle.inverse_dm.specs.declared.error.InverseError.TheVariants.{TooManyTables, TooManyColumns, TooManyRows}

-- more than 4,096 tables
abbrev pub HasManyTables : List PlainTable → Type 0
HasManyTables tables = 4096 < length tables

-- a table of more than 256 columns
abbrev pub HasWideTable : List PlainTable → Type 0
HasWideTable tables = (plain : PlainTable) × IsIn plain tables × (256 < length plain.shape.columns)

-- a table of more than 4,194,304 rows
abbrev pub HasLongTable : List PlainTable → Type 0
HasLongTable tables = (plain : PlainTable) × IsIn plain tables × (4194304 < length plain.rows)

-- none of these
pub record IsWithinLimits (tables : List PlainTable) : Type 0 where
  pub few_tables : ¬ HasManyTables tables
  pub few_columns : ¬ HasWideTable tables
  pub few_rows : ¬ HasLongTable tables

-- the tables are beyond the limit for which they are refused: of several limits the first counts
abbrev pub Exceeds : InverseError → List PlainTable → Type 0
Exceeds TooManyTables tables = HasManyTables tables
Exceeds TooManyColumns tables = (¬ HasManyTables tables) × HasWideTable tables
Exceeds TooManyRows tables = (¬ HasManyTables tables) × (¬ HasWideTable tables) × HasLongTable tables
Exceeds error tables = ⊥
