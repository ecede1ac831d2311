use Rattle.query_rows_dm.proofs.KeyLemmas.{inserted}
use Rattle.query_rows_dm.proofs.dictionary.Dictionary.number_of_value.Goals as goal

pub returns : goal.returns
returns c =
    let stored = c.in_ok-place.ensures.stored in
    rw (← c.self.view_is) (inserted c.self.inside.values.keys c.insert_full.new.self.keys (record { value = c.args.value }) c.in_ok-place.place c.in_ok-place.ensures.keys stored.0 stored.1 stored.2 c.insert_full.ensures.unique)
