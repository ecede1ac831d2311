use Rattle.std.proofs.Common.{◌≡◌, ◌+◌, ◌<◌, ℕ, length}
use Rattle.table_csv.specs.Databases.{rows_at}
use Rattle.clean_dm.specs.Checking.{KnowsGroups, RowAgrees}
use Rattle.clean_dm.proofs.checking.key_agrees.Given as goal

-- the rows before agree
abbrev pub invariant-loop-position : goal.invariant-loop-position
invariant-loop-position l =
    ((i : ℕ) → i < l.position → RowAgrees l.database l.removals l.turns l.table i (l.place + 1) l.key)
    × KnowsGroups l.database l.removals l.key l.known.items × (length l.known.items ≡ length (rows_at l.database.rows l.key.target))
