use Rattle.std.proofs.Common.{◌∙◌, List, ℕ, Some, sym, ap, chars}
use Rattle.ntriples_reader_dm.proofs.Exact.{pair}
use Rattle.ntriples_reader_dm.proofs.Scans.{kind_ascii, first_close, first_none}
use Rattle.ntriples_reader_dm.proofs.inside.inside.Goals as goal

pub until-requires : goal.until-requires
until-requires c = kind_ascii c.args.class.now c.args.kind c.requires

pub returns-in_ok-from_str-in-Some-clause-seen : goal.returns-in_ok-from_str-in-Some-clause-seen
returns-in_ok-from_str-in-Some-clause-seen c =
    first_close c.args.class.now c.args.kind c.requires (chars c.args.text.now) (chars c.in-Some.front.now) (chars c.in-Some.rest.now) c.in-Some.c c.in-Some.ensures.found (c.if-c-close_of.true ∙ c.close_of.ensures)
    ∙ ap (λ (us : List ℕ). Some (pair us (chars c.in-Some.rest.now))) (sym c.in_ok-from_str-in-Some.ensures.chars)

pub returns-in-None-clause-seen : goal.returns-in-None-clause-seen
returns-in-None-clause-seen c = first_none c.args.class.now c.args.kind c.requires (chars c.args.text.now) c.in-None.ensures.found
