use Rattle.std.proofs.Common.{◌≡◌, map, take}
use Rattle.schema_dm.specs.declared.draft.Column.{Column}
use Rattle.algebra_dm.proofs.columns.column_names.Given as goal

abbrev pub invariant-loop-column : goal.invariant-loop-column
invariant-loop-column l = l.names.items ≡ map (λ (c : Column). c.name) (take l.column-index l.columns)
