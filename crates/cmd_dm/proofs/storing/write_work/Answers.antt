use Rattle.cmd_dm.proofs.Endings.{ends_cut, ends_stored}
use Rattle.outside_dm.specs.declared.shelf.StoreError.TheVariants.{Failed, Memory}
use Rattle.cmd_dm.proofs.storing.write_work.Goals as goal

pub returns-in-Ok : goal.returns-in-Ok
returns-in-Ok g c =
    rw c.end_of_puts.ensures (ends_stored _ tt _ c.in-Ok.ensures (record { puts = c.put.ensures.puts; kept = c.put.ensures.kept }))

pub returns-in-Err-Failed : goal.returns-in-Err-Failed
returns-in-Err-Failed g c = ends_cut _ _ Failed (rw c.in-Err-Failed.field-0-is at c.in-Err-Failed.ensures)

pub returns-in-Err-Memory : goal.returns-in-Err-Memory
returns-in-Err-Memory g c = ends_cut _ _ Memory (rw c.in-Err-Memory.field-0-is at c.in-Err-Memory.ensures)
