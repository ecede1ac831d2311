use Rattle.outside_dm.specs.declared.shelf.StoreError.TheVariants.{Failed, Memory}
use Rattle.std.proofs.Common.{Err, Ok}
use Rattle.cmd_dm.proofs.Endings.{ends_filed}
use Rattle.cmd_dm.proofs.storing.store_work.Goals as goal

pub returns-in-Ok : goal.returns-in-Ok
returns-in-Ok g c = λ out. ends_filed _ out (Ok tt) c.in-Ok.ensures

pub returns-in-Err-Failed : goal.returns-in-Err-Failed
returns-in-Err-Failed g c = λ out. ends_filed _ out (Err Failed) (rw c.in-Err-Failed.field-0-is at c.in-Err-Failed.ensures)

pub returns-in-Err-Memory : goal.returns-in-Err-Memory
returns-in-Err-Memory g c = λ out. ends_filed _ out (Err Memory) (rw c.in-Err-Memory.field-0-is at c.in-Err-Memory.ensures)
