use Rattle.std.proofs.Common.{List, subst, sym}
use Rattle.consistency_dm.specs.Ranges.{AreRangesOf}
use Rattle.consistency_dm.specs.declared.range.StatedRange.{StatedRange}
use Rattle.consistency_dm.proofs.FirstConflicts.{conflict_told, conflict_yes, fine_more, not_literal, yes_told, yes_yes}
use Rattle.consistency_dm.proofs.conflict.consistent.Goals as goal

pub returns-in-Some-clause-yes : goal.returns-in-Some-clause-yes
returns-in-Some-clause-yes c =
    let of = subst (λ (ranges : List StatedRange). AreRangesOf c.args.triples.now ranges) (sym c.as_slice.ensures.value) c.in_ok-ranges.ensures in
    conflict_yes c.args.triples.now c.loop-place.place c.index-triples-place.result c.in-Some.kind c.loop-place-test.true c.index-triples-place.is (c.in-Some.ensures.told c.args.triples.now of) c.loop-place.invariant

pub returns-in-Some-clause-conflict : goal.returns-in-Some-clause-conflict
returns-in-Some-clause-conflict c =
    let of = subst (λ (ranges : List StatedRange). AreRangesOf c.args.triples.now ranges) (sym c.as_slice.ensures.value) c.in_ok-ranges.ensures in
    conflict_told c.args.triples.now c.loop-place.place c.index-triples-place.result c.in-Some.kind c.loop-place-test.true c.index-triples-place.is (c.in-Some.ensures.told c.args.triples.now of) c.loop-place.invariant

pub loop-place-preserved : goal.loop-place-preserved
loop-place-preserved c =
    let of = subst (λ (ranges : List StatedRange). AreRangesOf c.args.triples.now ranges) (sym c.as_slice.ensures.value) c.in_ok-ranges.ensures in
    fine_more c.args.triples.now c.loop-place.place c.index-triples-place.result c.loop-place-test.true c.index-triples-place.is (not_literal _ c.in_default.ensures.node) (c.in_default.ensures.told c.args.triples.now of) c.loop-place.invariant

pub returns-clause-yes : goal.returns-clause-yes
returns-clause-yes c = yes_yes c.args.triples.now c.loop-place.place c.loop-place-test.false c.loop-place.invariant

pub returns-clause-conflict : goal.returns-clause-conflict
returns-clause-conflict c = yes_told c.args.triples.now c.loop-place.place c.loop-place-test.false c.loop-place.invariant
