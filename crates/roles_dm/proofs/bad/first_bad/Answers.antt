use Rattle.std.proofs.Common.{◌+◌, ◌≤◌, arith, length, refl, subst}
use Rattle.std.proofs.lemmas.Option.{slice_get_read}
use Rattle.roles_dm.specs.Judging.{TellsCause}
use Rattle.roles_dm.proofs.BadLemmas.{none_bad, none_passed, one_bad, one_more_passed}
use Rattle.roles_dm.proofs.NumberedLemmas.{as_many, numbered_at}
use Rattle.roles_dm.proofs.bad.first_bad.Goals as goal

pub loop-before-init : goal.loop-before-init
loop-before-init c numbers read =
    none_passed c.args.base.now c.args.graph.now c.args.roles.now c.args.triples.now (record { columned = c.in_ok-columned_of.field-0; firsts = c.new.result; valued = c.new-2.result }) c.in_ok-columned_of.ensures
    c.new.ensures (c.new-2.ensures c.args.graph.now c.args.roles.now)

pub returns-in_default : goal.returns-in_default
returns-in_default c numbers read =
    let many = as_many c.args.graph.now c.args.triples.now c.args.numbers.now numbers in
    absurd (omega (arith, many, c.in_default.ensures.lookup.3, c.loop-before-test.true, c.loop-before.auto.before-end))

pub returns-in-Some-found : goal.returns-in-Some-found
returns-in-Some-found c numbers read =
    let passed = c.loop-before.invariant numbers read in
    let at = slice_get_read c.args.triples.now (length c.args.triples.now) c.loop-before.before c.index-triples-before.result refl (omega (arith, c.loop-before-test.true, c.loop-before.auto.before-end)) c.index-triples-before.is in
    let its = numbered_at c.args.graph.now c.args.triples.now c.args.numbers.now c.loop-before.before c.index-triples-before.result c.in-Some.numbered.now numbers at (slice_get_read _ _ c.loop-before.before _ refl c.in-Some.ensures.lookup.3.0 c.in-Some.ensures.lookup.1) in
    let told = c.in_ok-found.ensures c.args.base.now c.args.triples.now c.loop-before.before c.naming_laws.ensures read at its passed.0 passed.1 in
    one_bad c.args.base.now c.args.graph.now c.args.roles.now c.args.triples.now c.naming_laws.ensures c.loop-before.before (c.loop-before.before + 1) c.loop-before.seen c.in-Some-found.cause (omega arith) passed
    (subst (TellsCause c.args.base.now c.args.graph.now c.args.roles.now c.args.triples.now c.loop-before.before c.cause_at.new.seen) c.in-Some-found.is told)

pub loop-before-preserved : goal.loop-before-preserved
loop-before-preserved c numbers read =
    let passed = c.loop-before.invariant numbers read in
    let at = slice_get_read c.args.triples.now (length c.args.triples.now) c.loop-before.before c.index-triples-before.result refl (omega (arith, c.loop-before-test.true, c.loop-before.auto.before-end)) c.index-triples-before.is in
    let its = numbered_at c.args.graph.now c.args.triples.now c.args.numbers.now c.loop-before.before c.index-triples-before.result c.in-Some.numbered.now numbers at (slice_get_read _ _ c.loop-before.before _ refl c.in-Some.ensures.lookup.3.0 c.in-Some.ensures.lookup.1) in
    let told = c.in_ok-found.ensures c.args.base.now c.args.triples.now c.loop-before.before c.naming_laws.ensures read at its passed.0 passed.1 in
    one_more_passed c.args.base.now c.args.graph.now c.args.roles.now c.args.triples.now c.loop-before.before c.loop-before.seen c.cause_at.new.seen passed
    (subst (TellsCause c.args.base.now c.args.graph.now c.args.roles.now c.args.triples.now c.loop-before.before c.cause_at.new.seen) c.in_default-found.is told)

pub returns : goal.returns
returns c numbers read =
    let past : length c.args.triples.now ≤ c.loop-before.before = omega (arith, c.loop-before-test.false, c.loop-before.auto.before-end) in
    none_bad c.args.base.now c.args.graph.now c.args.roles.now c.args.triples.now c.naming_laws.ensures c.loop-before.before c.loop-before.seen past (c.loop-before.invariant numbers read)
