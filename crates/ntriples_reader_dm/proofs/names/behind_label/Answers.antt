use Rattle.std.proofs.Common.{◌≡◌, true, false, chars}
use Rattle.names_dm.specs.Terminals.{continues_label}
use Rattle.ntriples_reader_dm.specs.Reading.{label_rest}
use Rattle.ntriples_reader_dm.proofs.Behind.{label_goes_on, label_stops, label_ends}
use Rattle.ntriples_reader_dm.proofs.names.behind_label.Goals as goal

pub returns-then-not-continues_label : goal.returns-then-not-continues_label
returns-then-not-continues_label c =
    let k : continues_label c.in-Some.c ≡ false = cc in
    label_stops c.in-Some.c (chars c.label.rest.now) (chars c.in-Some.behind.now) (chars c.label.end.now) (label_rest (chars c.args.text.now)).1 c.label.invariant.0 c.in-Some.ensures.chars k

pub label-preserved : goal.label-preserved
label-preserved c =
    let k : continues_label c.in-Some.c ≡ true = cc in (
      label_goes_on c.in-Some.c (chars c.label.rest.now) (chars c.in-Some.behind.now) (chars c.label.end.now) (chars c.end_behind-end.result.now) (label_rest (chars c.args.text.now)).1 c.label.invariant.0 c.in-Some.ensures.chars k c.end_behind-end.ensures,
      c.in-Some.ensures.utf8,
      c.end_behind-end.utf8,
    )

pub returns : goal.returns
returns c = label_ends (chars c.label.rest.now) (chars c.label.end.now) (label_rest (chars c.args.text.now)).1 c.label.invariant.0 c.in_default.ensures.chars
