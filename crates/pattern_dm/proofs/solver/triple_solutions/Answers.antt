use Rattle.pattern_dm.proofs.SlotLemmas.{slot_bound, triple_exact, triple_numbers}
use Rattle.pattern_dm.proofs.solver.triple_solutions.Goals as goal

pub triple_rows-requires : goal.triple_rows-requires
triple_rows-requires c = record {
  subject = slot_bound c.args.graph.now c.requires c.args.subject.now c.in_ok-s.s c.in_ok-s.ensures;
  predicate = slot_bound c.args.graph.now c.requires c.args.predicate.now c.in_ok-p.p c.in_ok-p.ensures;
  object = slot_bound c.args.graph.now c.requires c.args.object.now c.in_ok-o.o c.in_ok-o.ensures;
}

pub returns : goal.returns
returns c =
    let g = c.args.graph.now in
    let s = c.args.subject.now in
    let p = c.args.predicate.now in
    let o = c.args.object.now in
    record {
      exact = triple_exact g c.requires s p o c.in_ok-s.s c.in_ok-p.p c.in_ok-o.o c.in_ok-s.ensures c.in_ok-p.ensures c.in_ok-o.ensures c.in_ok-rows.rows c.in_ok-rows.ensures.exact;
      once = c.in_ok-rows.ensures.once;
      numbers = triple_numbers g c.requires s p o c.in_ok-s.s c.in_ok-p.p c.in_ok-o.o c.in_ok-s.ensures c.in_ok-p.ensures c.in_ok-o.ensures c.in_ok-rows.rows c.in_ok-rows.ensures.exact;
    }
