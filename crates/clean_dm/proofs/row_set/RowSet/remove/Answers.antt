use Rattle.std.proofs.Common.{◌≡◌, ◌∙◌, true}
use Rattle.clean_dm.specs.RowSets.{Has}
use Rattle.clean_dm.proofs.RowSetLemmas.{loses}
use Rattle.clean_dm.proofs.row_set.RowSet.remove.Goals as goal

pub returns-clause-rest : goal.returns-clause-rest
returns-clause-rest c = loses c.args.self.now (record { pairs = c.remove-was_there.new.self }) c.args.table c.args.row (λ q. c.remove-was_there.ensures.updates.0 q)

pub returns-clause-fewer : goal.returns-clause-fewer
unfolding Has
returns-clause-fewer c =
    let was : c.remove-was_there.result ≡ true = c.remove-was_there.ensures.test ∙ c.requires in
    rw was at c.remove-was_there.ensures.len
