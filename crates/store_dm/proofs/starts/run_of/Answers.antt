use Rattle.std.proofs.Common.{◌+◌, arith, subst, sym}
use Rattle.store_dm.specs.Starts.{IsRun}
use Rattle.store_dm.proofs.StartLemmas.{low_first, part_run}
use Rattle.store_dm.proofs.starts.run_of.Goals as goal

pub part-requires-clause-low : goal.part-requires-clause-low
part-requires-clause-low c = let n = c.args.first in
    low_first c.args.items.now c.requires.rising n _ _ (c.requires.begun n (omega (arith, c.if-number-starts.true))) (c.requires.begun (n + 1) c.if-number-starts.true)

pub part-requires-clause-high : goal.part-requires-clause-high
part-requires-clause-high c = (c.requires.begun (c.args.first + 1) c.if-number-starts.true).0

pub returns-then-number-starts : goal.returns-then-number-starts
returns-then-number-starts c = let n = c.args.first in
    subst (IsRun n c.args.items.now) (sym c.part.ensures)
    (part_run c.args.items.now c.requires.rising n _ _ (c.requires.begun n (omega (arith, c.if-number-starts.true))) (c.requires.begun (n + 1) c.if-number-starts.true))
