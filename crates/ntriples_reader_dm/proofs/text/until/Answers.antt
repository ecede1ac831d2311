use Rattle.std.proofs.Common.{◌∙◌, sym, ap}
use Rattle.std.specs.List.{position}
use Rattle.lanes_dm.specs.ByteSet.{has_byte}
use Rattle.ntriples_reader_dm.proofs.Scans.{none_in_text, found_first, found_some, found_place}
use Rattle.ntriples_reader_dm.proofs.text.until.Goals as goal

pub returns-in_err-at-clause-found : goal.returns-in_err-at-clause-found
returns-in_err-at-clause-found c = rw c.from_residual.ensures (none_in_text c.args.class.now c.requires c.args.text.now c.utf8.text (sym (c.in_err-at.ensures ∙ ap (position (has_byte c.args.class.now)) c.as_bytes.ensures.value)))

pub split_at-requires : goal.split_at-requires
split_at-requires c = found_place (has_byte c.args.class.now) c.requires c.args.text.now c.in_ok-at.at (sym (c.in_ok-at.ensures ∙ ap (position (has_byte c.args.class.now)) c.as_bytes.ensures.value))

pub returns-in_err-first-clause-found : goal.returns-in_err-first-clause-found
returns-in_err-first-clause-found c =
    found_some (has_byte c.args.class.now) c.args.text.now c.in_ok-at.at (sym (c.in_ok-at.ensures ∙ ap (position (has_byte c.args.class.now)) c.as_bytes.ensures.value)) c.split_at.result.1.now c.split_at.ensures.back c.utf8.text c.requires c.in_err-first.ensures.chars

pub returns-clause-found : goal.returns-clause-found
returns-clause-found c =
    found_first c.args.class.now c.requires c.args.text.now c.utf8.text c.in_ok-at.at (sym (c.in_ok-at.ensures ∙ ap (position (has_byte c.args.class.now)) c.as_bytes.ensures.value)) c.split_at.result.0.now c.split_at.result.1.now c.in_ok-first.behind.now c.in_ok-first.first
    c.split_at.ensures.front c.split_at.ensures.back c.in_ok-first.ensures.chars
