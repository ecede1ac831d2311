use Rattle.std.specs.Prelude.{take}
use Rattle.clean_dm.specs.Checking.{HoldsFrom}
use Rattle.clean_dm.proofs.CheckingLemmas.{AllGone}
use Rattle.clean_dm.proofs.checking.all_gone_from.Given as goal

-- from this turn on the rows of the first entries are gone
abbrev pub invariant-loop-entry : goal.invariant-loop-entry
invariant-loop-entry l = HoldsFrom l.removals (AllGone l.table (take l.entry-index l.entries)) l.last
