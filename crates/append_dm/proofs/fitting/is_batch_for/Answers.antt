use Rattle.table_csv.proofs.Databases.{one_list_each}
use Rattle.append_dm.proofs.fitting.is_batch_for.Goals as goal

pub has_room-requires-clause-lists : goal.has_room-requires-clause-lists
has_room-requires-clause-lists c = one_list_each c.args.batch.now c.schema.ensures.fits
