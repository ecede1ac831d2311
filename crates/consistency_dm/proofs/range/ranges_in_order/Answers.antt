use Rattle.std.proofs.Common.{◌∙◌, ap, map}
use Rattle.consistency_dm.specs.Ranges.{asks_of}
use Rattle.consistency_dm.proofs.AskedRanges.{ranges_push, ranges_skip}
use Rattle.consistency_dm.proofs.range.ranges_in_order.Goals as goal
use Rattle.consistency_dm.proofs.range.ranges_in_order.Goals.{in-Some+in_ok-push, in_default}

pub loop-triple-preserved : goal.loop-triple-preserved
loop-triple-preserved c =
    elim c.match-stated_range.branch [
      | in-Some+in_ok-push w ↦
          (ap (λ v. map asks_of v.items) w.made-is ∙ ap (map asks_of) w.in_ok-push.ensures.items
          ∙ ranges_push c.args.triples.now c.loop-triple.triple-index c.triple-item.result c.loop-triple.made.items w.in-Some.range c.loop-triple-test.true c.triple-item.is c.loop-triple.invariant w.in-Some.ensures)
      | in_default w ↦
          (ap (λ v. map asks_of v.items) w.made-is
          ∙ ranges_skip c.args.triples.now c.loop-triple.triple-index c.triple-item.result c.loop-triple.made.items c.loop-triple-test.true c.triple-item.is c.loop-triple.invariant w.in_default.ensures)
    ]
