use Rattle.std.proofs.Common.{◌≡◌, length, chars}
use Rattle.std.specs.Prelude.{IsUtf8}
use Rattle.ntriples_reader_dm.specs.Reading.{skip}
use Rattle.ntriples_reader_dm.proofs.text.skip.Given as goal

abbrev pub invariant-blanks : goal.invariant-blanks
invariant-blanks l = (skip (chars l.rest) ≡ skip (chars l.text)) × IsUtf8 l.rest

abbrev pub decreases-blanks : goal.decreases-blanks
decreases-blanks l = length l.rest
