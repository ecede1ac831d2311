use Rattle.std.proofs.Common.{subst}
use Rattle.store_dm.specs.Graphs.{IsLawful}
use Rattle.store_dm.proofs.graph.Graph.len.Goals as goal

pub returns-clause-lawful : goal.returns-clause-lawful
returns-clause-lawful c = subst IsLawful c.self.view_is
    (record { used = c.self.invariant.used; named = c.self.invariant.named; apart = c.self.invariant.apart })
