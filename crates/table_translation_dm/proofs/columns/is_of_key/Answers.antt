use Rattle.table_translation_dm.proofs.PartLemmas.{of_key_none, of_key_some}
use Rattle.table_translation_dm.proofs.columns.is_of_key.Goals as goal

pub returns-in-None : goal.returns-in-None
returns-in-None c = of_key_none c.args.table.now c.args.place c.in-None.is

pub returns-in-Some : goal.returns-in-Some
returns-in-Some c = of_key_some c.args.table.now c.args.place c.is_among.result c.in-Some.places c.in-Some.is c.is_among.ensures
