-- What an index holds.
use Rattle.std.specs.Prelude.{ℕ, List}
use Rattle.table_csv.specs.Cells.{Row}
use Rattle.keys_dm.specs.Entries.{IsSortedIndexOf}
use Rattle.keys_dm.specs.Twins.{TellTwins}
use Rattle.keys_dm.specs.declared.index.KeyIndex.{KeyIndex}

-- the index has all rows, each once, in the order of their cells in the columns at the places, and tells which of them
-- have the same cells as another
pub record IsIndexOf (rows : List Row) (places : List ℕ) (index : KeyIndex) : Type 0 where
  pub sorted : IsSortedIndexOf rows places index.entries.items
  pub twins : TellTwins rows places index.twins.items
