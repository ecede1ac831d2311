use Rattle.std.proofs.Common.{sym, chars}
use Rattle.ntriples_reader_dm.proofs.Behind.{tag_ends_with, tag_is}
use Rattle.ntriples_reader_dm.proofs.names.tag_text.Goals as goal

pub text_before-requires : goal.text_before-requires
text_before-requires c = tag_ends_with c.in-Some.first (chars c.args.text.now) (chars c.in-Some.behind.now) (chars c.behind_tag-rest.result.now) c.in-Some.ensures.chars c.behind_tag-rest.ensures

pub returns-in_ok-tag-in-Some-clause-seen : goal.returns-in_ok-tag-in-Some-clause-seen
returns-in_ok-tag-in-Some-clause-seen c =
    tag_is c.in-Some.first (chars c.args.text.now) (chars c.in-Some.behind.now) (chars c.behind_tag-rest.result.now) c.in_ok-tag-in-Some.tag c.in-Some.ensures.chars c.behind_tag-rest.ensures (sym c.if-is_letter.ensures) c.in_ok-tag-in-Some.ensures
