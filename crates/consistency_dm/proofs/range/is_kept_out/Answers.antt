use Rattle.std.proofs.Common.{◌∙◌, ap, arith, refl, sym}
use Rattle.consistency_dm.specs.Ranges.{datatype_of, is_let_in}
use Rattle.consistency_dm.specs.declared.range.StatedRange.{StatedRange}
use Rattle.consistency_dm.proofs.KeptOut.{kept_out_by_ends, none_kept_out_of}
use Rattle.consistency_dm.proofs.range.is_kept_out.Goals as goal

pub returns-then-start-end : goal.returns-then-start-end
returns-then-start-end c = λ triples of. (
  (λ t. cc t),
  (λ out. absurd (none_kept_out_of c.args.ranges.now c.requires c.predicate-property.result.now c.start_of-start.result c.end_of-end.result c.end_of-end.ensures.bound c.start_of-start.ensures.point c.end_of-end.ensures.point
      triples of c.args.triple.now (sym c.predicate-property.ensures) c.if-start-end.true out)),
)

pub returns : goal.returns
returns c = λ triples of.
    kept_out_by_ends c.args.ranges.now c.requires c.predicate-property.result.now c.start_of-start.result c.end_of-end.result c.end_of-end.ensures.bound c.start_of-start.ensures.point c.end_of-end.ensures.point
    triples of c.args.triple.now (sym c.predicate-property.ensures) c.index-ranges-start.result c.index-ranges-end.result c.is_let_in-by_first.result c.is_let_in-by_last.result _ (omega arith)
    c.index-ranges-start.is c.index-ranges-end.is
    (c.is_let_in-by_first.ensures ∙ ap (λ (r : StatedRange). is_let_in (datatype_of r.demand) c.object-object.result.now) (sym c.index-ranges-start.is) ∙ ap (is_let_in (datatype_of c.index-ranges-start.result.demand)) c.object-object.ensures)
    (c.is_let_in-by_last.ensures ∙ ap (λ (r : StatedRange). is_let_in (datatype_of r.demand) c.object-object.result.now) (sym c.index-ranges-end.is) ∙ ap (is_let_in (datatype_of c.index-ranges-end.result.demand)) c.object-object.ensures) refl
