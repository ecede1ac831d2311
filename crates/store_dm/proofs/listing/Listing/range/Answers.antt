use Rattle.std.proofs.Common.{subst, sym, ◌∙◌, List}
use Rattle.store_dm.specs.declared.listing.Triad.{Triad}
use Rattle.store_dm.specs.Triads.{IsRising}
use Rattle.store_dm.specs.Starts.{IsRun}
use Rattle.store_dm.proofs.TriadLemmas.{rising_once}
use Rattle.store_dm.proofs.StartLemmas.{run_exact}
use Rattle.store_dm.proofs.listing.Listing.range.Goals as goal

pub returns-then-from-eq0-clause-once : goal.returns-then-from-eq0-clause-once
returns-then-from-eq0-clause-once c = rising_once c.as_slice-items.result.now (subst IsRising (sym c.as_slice-items.ensures.value) c.self.invariant.rising) c.args.from

pub returns-else-from-eq0-clause-exact : goal.returns-else-from-eq0-clause-exact
returns-else-from-eq0-clause-exact c =
    run_exact c.args.from c.args.self.now c.run_of.result.now c.range_of.result.now c.if-from-eq0.false
    (subst (λ (items : List Triad). IsRun c.args.from.first items c.run_of.result.now) (c.as_slice-items.ensures.value ∙ c.self.view_is) c.run_of.ensures) c.range_of.ensures.exact
