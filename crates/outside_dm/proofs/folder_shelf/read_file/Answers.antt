use Rattle.std.proofs.Common.{inr, refl, Ok, Err}
use Rattle.outside_dm.proofs.folder_shelf.read_file.Goals as goal

pub returns-in-Ok : goal.returns-in-Ok
returns-in-Ok g c = inr (Ok tt, c.in-Ok.ensures.call, (c.in-Ok.reader, c.read_whole.new.reader, c.in-Ok.ensures.fresh, c.read_whole.ensures))

pub returns-in-Err : goal.returns-in-Err
returns-in-Err g c = inr (Err c.in-Err.error, c.in-Err.ensures.call, (refl, c.open_refusal.ensures))
