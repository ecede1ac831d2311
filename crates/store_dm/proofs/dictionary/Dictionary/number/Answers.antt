use Rattle.store_dm.proofs.Same.{one_place}
use Rattle.store_dm.proofs.dictionary.Dictionary.number.Goals as goal

pub returns-clause-apart : goal.returns-clause-apart
returns-clause-apart c = one_place c.insert_full.new.self.keys c.insert_full.ensures.unique

pub returns-in_err-index-clause-apart : goal.returns-in_err-index-clause-apart
returns-in_err-index-clause-apart c = one_place c.insert_full.new.self.keys c.insert_full.ensures.unique
