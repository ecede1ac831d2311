use Rattle.std.proofs.Common.{◌<◌, ◌-◌, arith, sym, subst}
use Rattle.keys_dm.specs.Twins.{entry_at}
use Rattle.keys_dm.proofs.TwinLemmas.{below, pairs_turn, twins_told}
use Rattle.keys_dm.proofs.twins.twins_of.Goals as goal

pub flag_pair-requires-clause-low : goal.flag_pair-requires-clause-low
flag_pair-requires-clause-low c =
    subst (λ n. (entry_at c.args.entries.now (c.loop-place.place - 1)).row < n) (sym c.loop-place.invariant.1.many)
    (below c.args.rows.now c.args.places.now c.args.entries.now c.requires (c.loop-place.place - 1) (omega (arith, c.loop-place-test.true, c.loop-place.invariant.0)))

pub flag_pair-requires-clause-high : goal.flag_pair-requires-clause-high
flag_pair-requires-clause-high c =
    subst (λ n. (entry_at c.args.entries.now c.loop-place.place).row < n) (sym c.loop-place.invariant.1.many)
    (below c.args.rows.now c.args.places.now c.args.entries.now c.requires c.loop-place.place c.loop-place-test.true)

pub loop-place-preserved : goal.loop-place-preserved
loop-place-preserved c = (
  omega (arith, c.loop-place.invariant.0),
  pairs_turn c.args.rows.now c.args.places.now c.args.entries.now c.loop-place.place c.loop-place.flags.items c.flag_pair.new.flags.items c.loop-place.invariant.0 c.loop-place-test.true c.loop-place.invariant.1 c.flag_pair.ensures,
)

pub returns : goal.returns
returns c = twins_told c.args.rows.now c.args.places.now c.args.entries.now c.requires c.loop-place.place c.loop-place.flags.items (omega (arith, c.loop-place-test.false)) c.loop-place.invariant.1
