use Rattle.solutions_dm.specs.Keys.{key_at}
use Rattle.solutions_dm.proofs.KeyLemmas.{keyed_from_sort}
use Rattle.solutions_dm.proofs.keys.sorted_by_key.Goals as goal

pub returns : goal.returns
returns c = keyed_from_sort (key_at c.args.rows.now.columns c.args.names.now) c.args.rows.now.rows c.in_ok-made.made.items c.sort_unstable.new.self.items
    c.in_ok-made.ensures c.sort_unstable.ensures.permutation c.sort_unstable.ensures.sorted
