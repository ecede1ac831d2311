use Rattle.std.proofs.Common.{List, ap, length, refl, arith}
use Rattle.schema_dm.specs.declared.table.Table.{Table}
use Rattle.append_dm.proofs.SameLists.{not_same, same_all, same_more}
use Rattle.append_dm.proofs.fitting.are_same.Goals as goal

pub returns-then-tables-others : goal.returns-then-tables-others
returns-then-tables-others c = (λ e. cc e, λ h. absurd (c.if-tables-others.true (ap (λ (ts : List Table). length ts) h)))

pub returns-then-not-same : goal.returns-then-not-same
returns-then-not-same c = (
  λ e. cc e,
  λ h. absurd (not_same c.args.tables.now c.args.others.now c.loop-place.place c.index-tables-place.result c.index-others-place.result c.loop-place-test.true c.if-tables-others.false c.index-tables-place.is c.index-others-place.is
      (λ is. cc (c.if-not-same.true, c.same.ensures.1 is)) h),
)

pub loop-place-preserved : goal.loop-place-preserved
loop-place-preserved c =
    same_more c.args.tables.now c.args.others.now c.loop-place.place c.index-tables-place.result c.index-others-place.result c.loop-place-test.true c.if-tables-others.false c.index-tables-place.is c.index-others-place.is c.loop-place.invariant
    (c.same.ensures.0 c.if-not-same.false)

pub returns : goal.returns
returns c =
    let last = c.loop-place-test.false in
    let end = c.loop-place.auto in
    ((λ told. same_all c.args.tables.now c.args.others.now c.loop-place.place c.if-tables-others.false (omega arith) c.loop-place.invariant), (λ h. refl))
