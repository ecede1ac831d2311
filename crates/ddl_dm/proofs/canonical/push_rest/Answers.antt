use Rattle.std.proofs.Common.{string_bytes}
use Rattle.ddl_dm.specs.Canonical.{further_text}
use Rattle.ddl_dm.proofs.Writing.{adds_more}
use Rattle.ddl_dm.proofs.canonical.push_rest.Goals as goal

pub loop-column-preserved : goal.loop-column-preserved
loop-column-preserved c =
    adds_more further_text (string_bytes c.args.text.now) (string_bytes c.loop-column.text) (string_bytes c.push_further.new.text) c.args.columns.now c.loop-column.column-index c.column-item.result
    c.loop-column-test.true c.column-item.is c.loop-column.invariant c.in_ok-push_further.ensures
