use Rattle.std.proofs.Common.{◌∙◌, ◌<◌, length, arith, sym}
use Rattle.std.proofs.lemmas.Bool.{true≢false}
use Rattle.bench_lines_dm.proofs.PlainTables.{found_kind, found_there, found_within, not_found}
use Rattle.bench_lines_dm.proofs.inverted.place_of.Goals as goal

pub returns-in-None : goal.returns-in-None
returns-in-None c = λ place at. not_found c.args.columns.now c.args.wanted.now c.args.names.now c.requires.names c.requires.once c.in-None.ensures place at

pub offset_bounds-columns-place : goal.offset_bounds-columns-place
offset_bounds-columns-place c =
    let within : c.in-Some.place < length c.args.columns.now = found_within c.args.columns.now c.args.wanted.now c.args.names.now c.requires.names c.requires.once c.in-Some.place c.in-Some.ensures in
    omega arith

pub bounds-columns-place : goal.bounds-columns-place
bounds-columns-place c = found_within c.args.columns.now c.args.wanted.now c.args.names.now c.requires.names c.requires.once c.in-Some.place c.in-Some.ensures

pub overflow_cast-result : goal.overflow_cast-result
overflow_cast-result c =
    let within : c.in-Some.place < length c.args.columns.now = found_within c.args.columns.now c.args.wanted.now c.args.names.now c.requires.names c.requires.once c.in-Some.place c.in-Some.ensures in
    omega arith

pub returns-then-same : goal.returns-then-same
returns-then-same c = λ place at. found_there c.args.columns.now c.args.wanted.now c.args.names.now c.requires.names c.requires.once c.in-Some.place c.in-Some.ensures place at

pub returns-else-same : goal.returns-else-same
returns-else-same c = λ place at.
    let kind = found_kind c.args.columns.now c.args.wanted.now c.args.names.now c.requires.names c.requires.once c.in-Some.place c.in-Some.ensures c.index-columns-place.result place at in
    absurd (true≢false (sym (c.same.ensures.1 kind) ∙ c.if-same.false))
