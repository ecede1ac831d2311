use Rattle.std.proofs.Common.{string_bytes}
use Rattle.ddl_dm.specs.Canonical.{table_text}
use Rattle.ddl_dm.proofs.Writing.{adds_more}
use Rattle.ddl_dm.proofs.canonical.push_tables.Goals as goal

pub loop-table-preserved : goal.loop-table-preserved
loop-table-preserved c =
    adds_more table_text (string_bytes c.args.text.now) (string_bytes c.loop-table.text) (string_bytes c.push_table.new.text) c.args.tables.now c.loop-table.table-index c.table-item.result
    c.loop-table-test.true c.table-item.is c.loop-table.invariant c.in_ok-push_table.ensures
