use Rattle.std.proofs.Common.{sym}
use Rattle.roles_dm.proofs.FirstLemmas.{notes_new}
use Rattle.roles_dm.proofs.seen.Firsts.agrees.Goals as goal

pub returns-in_ok-insert-in-None : goal.returns-in_ok-insert-in-None
returns-in_ok-insert-in-None c = notes_new c.args.self.now (record { objects = c.insert.new.self }) c.args.numbers (sym c.in-None.ensures.value) (λ s p. c.in_ok-insert-in-None.ensures.updates.0 (s, p))
