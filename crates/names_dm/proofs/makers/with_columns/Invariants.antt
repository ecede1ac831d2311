use Rattle.std.proofs.Common.{◌≡◌, ◌++◌, take}
use Rattle.names_dm.specs.Names.{column_list}
use Rattle.names_dm.proofs.Words.{is_empty_list}
use Rattle.names_dm.proofs.makers.with_columns.Given as goal

-- the columns so far are added
abbrev pub invariant-loop-column : goal.invariant-loop-column
invariant-loop-column l = (l.spelling ≡ l.initial.spelling ++ column_list (take l.column-index l.columns)) × (l.first ≡ is_empty_list (take l.column-index l.columns))
