use Rattle.std.proofs.Common.{subst, sym, List, ℕ}
use Rattle.store_dm.specs.Starts.{AreStarts}
use Rattle.store_dm.proofs.StartLemmas.{none, begun_more, before_more, begun_last}
use Rattle.store_dm.proofs.starts.starts_of.Goals as goal

pub loop-index-preserved : goal.loop-index-preserved
loop-index-preserved c =
    let items = c.args.items.now in
    let i = c.loop-index.index in
    let old = c.loop-index.starts.items in
    let new = c.push_until.new.starts.items in
    let added = c.in_ok-push_until.ensures in (
      begun_more items c.requires new i c.loop-index-test.true none old c.loop-index.invariant.0 c.loop-index.invariant.1 added.kept added.added,
      before_more items c.requires new i c.loop-index-test.true none added.all,
    )

pub returns : goal.returns
returns c = subst (λ (starts : List ℕ). AreStarts starts c.args.items.now) (sym c.in_ok-push.ensures.items)
    (begun_last c.args.items.now c.requires c.loop-index.starts.items c.loop-index.index c.loop-index-test.false c.loop-index.invariant.0 c.loop-index.invariant.1)
