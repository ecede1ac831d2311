use Rattle.roles_dm.proofs.SeenLemmas.{one_more}
use Rattle.roles_dm.proofs.seen.Valued.note.Goals as goal

pub returns : goal.returns
returns c g roles valued counted = one_more g roles c.args.self.now (record { pairs = c.insert.new.self }) c.args.subject c.args.property (λ a b. c.in_ok-insert.ensures.updates.0 (a, b)) valued counted
