use Rattle.std.proofs.Common.{sym, chars}
use Rattle.ntriples_reader_dm.proofs.Behind.{label_ends_with, label_is}
use Rattle.ntriples_reader_dm.proofs.names.label_text.Goals as goal

pub text_before-requires : goal.text_before-requires
text_before-requires c = label_ends_with c.in-Some.first (chars c.args.text.now) (chars c.in-Some.behind.now) (chars c.behind_label-rest.result.now) c.in-Some.ensures.chars c.behind_label-rest.ensures

pub returns-in_ok-label-in-Some-clause-seen : goal.returns-in_ok-label-in-Some-clause-seen
returns-in_ok-label-in-Some-clause-seen c =
    label_is c.in-Some.first (chars c.args.text.now) (chars c.in-Some.behind.now) (chars c.behind_label-rest.result.now) c.in_ok-label-in-Some.label c.in-Some.ensures.chars c.behind_label-rest.ensures (sym c.if-begins_label.ensures) c.in_ok-label-in-Some.ensures
