use Rattle.std.proofs.Common.{sym, ap, ◌∙◌}
use Rattle.std.specs.Option.{is_some}
use Rattle.query_rows_dm.proofs.KeyLemmas.{sought_at, sought_not}
use Rattle.query_rows_dm.proofs.dictionary.Dictionary.sought.Goals as goal

pub returns-in-None : goal.returns-in-None
returns-in-None c = rw (← c.self.view_is) (λ one. sought_not c.self.inside.values.keys (record { value = c.args.value }) (sym c.get_index_of.ensures.found ∙ ap is_some c.in-None.is))

pub returns-in-Some : goal.returns-in-Some
returns-in-Some c = rw (← c.self.view_is) (λ one. sought_at c.self.inside.values.keys (record { value = c.args.value }) c.in-Some.place (sym c.get_index_of.ensures.index ∙ c.in-Some.is) one)
