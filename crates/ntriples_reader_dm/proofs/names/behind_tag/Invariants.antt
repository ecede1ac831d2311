use Rattle.std.proofs.Common.{◌≡◌, true, length, chars}
use Rattle.std.specs.Prelude.{IsUtf8}
use Rattle.ntriples_reader_dm.specs.Reading.{tag_rest}
use Rattle.ntriples_reader_dm.proofs.names.behind_tag.Given as goal

abbrev pub invariant-tag : goal.invariant-tag
invariant-tag l = ((tag_rest l.first (chars l.rest)).1 ≡ (tag_rest true (chars l.text)).1) × IsUtf8 l.rest

abbrev pub decreases-tag : goal.decreases-tag
decreases-tag l = length l.rest
