use Rattle.std.proofs.Common.{◌≡◌, length, chars, string_bytes}
use Rattle.std.specs.Prelude.{IsUtf8}
use Rattle.ntriples_reader_dm.specs.Reading.{until_at}
use Rattle.ntriples_reader_dm.specs.Views.{before, close_of, one_of}
use Rattle.ntriples_reader_dm.proofs.inside.escaped.Given as goal

abbrev pub invariant-inside : goal.invariant-inside
invariant-inside l = (before (chars (string_bytes l.out)) (until_at (close_of l.kind) (one_of l.kind) (chars l.rest)) ≡ until_at (close_of l.kind) (one_of l.kind) (chars l.text)) × IsUtf8 l.rest

abbrev pub decreases-inside : goal.decreases-inside
decreases-inside l = length l.rest
