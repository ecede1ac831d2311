use Rattle.keys_dm.proofs.EntryOrder.{index_from_sort}
use Rattle.keys_dm.proofs.index.entries_of.Goals as goal

pub returns : goal.returns
returns c = index_from_sort c.args.rows.now c.args.places.now c.in_ok-entries.entries.items c.sort_entries.new.entries.items c.in_ok-entries.ensures c.sort_entries.ensures
