use Rattle.std.proofs.Common.{ℕ, take}
use Rattle.std.specs.List.{AllZip}
use Rattle.graph_tables_dm.specs.TableReadings.{IsPairRow}
use Rattle.graph_tables_dm.proofs.relations.pair_rows.Given as goal

abbrev pub invariant-loop-pair : goal.invariant-loop-pair
invariant-loop-pair l = AllZip {A = ℕ × ℕ} (IsPairRow l.graph l.roles l.link l.left_first) (take l.pair-index l.pairs) l.rows
