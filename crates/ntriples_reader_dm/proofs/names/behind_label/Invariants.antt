use Rattle.std.proofs.Common.{◌≡◌, length, chars}
use Rattle.std.specs.Prelude.{IsUtf8}
use Rattle.ntriples_reader_dm.specs.Reading.{label_rest}
use Rattle.ntriples_reader_dm.proofs.Behind.{after_dots}
use Rattle.ntriples_reader_dm.proofs.names.behind_label.Given as goal

abbrev pub invariant-label : goal.invariant-label
invariant-label l = (after_dots (chars l.end) (label_rest (chars l.rest)) ≡ (label_rest (chars l.text)).1) × IsUtf8 l.rest × IsUtf8 l.end

abbrev pub decreases-label : goal.decreases-label
decreases-label l = length l.rest
