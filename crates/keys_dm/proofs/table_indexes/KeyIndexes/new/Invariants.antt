use Rattle.keys_dm.specs.TableIndexes.{AreFirstIndexes}
use Rattle.keys_dm.proofs.table_indexes.KeyIndexes.new.Given as goal

abbrev pub invariant-loop-place : goal.invariant-loop-place
invariant-loop-place l = AreFirstIndexes l.database l.place l.tables
