use Rattle.std.proofs.Common.{◌≡◌, ◌∙◌, true, false, sym, chars}
use Rattle.std.specs.Prelude.{◌==◌, ◌&&◌}
use Rattle.names_dm.specs.Terminals.{is_letter_or_digit}
use Rattle.ntriples_reader_dm.specs.Reading.{in_part, starts, tag_rest}
use Rattle.ntriples_reader_dm.proofs.Behind.{tag_in_goes_on, tag_hyphen_goes_on, tag_stops_here, tag_ends}
use Rattle.ntriples_reader_dm.proofs.names.behind_tag.Goals as goal

pub tag-preserved-then-in_part : goal.tag-preserved-then-in_part
tag-preserved-then-in_part c =
    let k : in_part c.tag.first c.in-Some.c ≡ true = sym c.in_part.ensures ∙ c.if-in_part.true in
    (tag_in_goes_on c.tag.first c.in-Some.c (chars c.tag.rest.now) (chars c.in-Some.behind.now) (tag_rest true (chars c.args.text.now)).1 c.tag.invariant.0 c.in-Some.ensures.chars k, c.in-Some.ensures.utf8)

pub returns-then-not-begins_more : goal.returns-then-not-begins_more
returns-then-not-begins_more c =
    let k : in_part c.tag.first c.in-Some.c ≡ false = sym c.in_part.ensures ∙ c.if-in_part.false in
    let m : ((c.in-Some.c == 45) && starts is_letter_or_digit (chars c.in-Some.behind.now)) ≡ false = cc in
    tag_stops_here c.tag.first c.in-Some.c (chars c.tag.rest.now) (chars c.in-Some.behind.now) (tag_rest true (chars c.args.text.now)).1 c.tag.invariant.0 c.in-Some.ensures.chars k m

pub tag-preserved : goal.tag-preserved
tag-preserved c =
    let k : in_part c.tag.first c.in-Some.c ≡ false = sym c.in_part.ensures ∙ c.if-in_part.false in
    let m : ((c.in-Some.c == 45) && starts is_letter_or_digit (chars c.in-Some.behind.now)) ≡ true = cc in
    (tag_hyphen_goes_on c.tag.first c.in-Some.c (chars c.tag.rest.now) (chars c.in-Some.behind.now) (tag_rest true (chars c.args.text.now)).1 c.tag.invariant.0 c.in-Some.ensures.chars k m, c.in-Some.ensures.utf8)

pub returns : goal.returns
returns c = tag_ends c.tag.first (chars c.tag.rest.now) (tag_rest true (chars c.args.text.now)).1 c.tag.invariant.0 c.in_default.ensures.chars
