use Rattle.std.proofs.Common.{refl}
use Rattle.schema_dm.proofs.KindLoops.{pair_found}
use Rattle.schema_dm.proofs.keys.any_kinds_differ.Goals as goal

pub returns-then-kinds_differ : goal.returns-then-kinds_differ
returns-then-kinds_differ c = (
  (λ _. pair_found c.args.draft.now.columns c.args.names.now c.args.target.now.columns c.args.targets.now c.loop-i.i c.index-names-i.result c.index-targets-i.result c.loop-i-test.true c.if-i-targets.false c.index-names-i.is c.index-targets-i.is
      (rw (← c.kind_of_name.ensures, ← c.kind_of_name-in-loop-i.ensures) (c.if-kinds_differ.ensures.0 refl))),
  (λ _. refl),
)
