use Rattle.std.proofs.Common.{chars}
use Rattle.ntriples_reader_dm.specs.Lines.{lines}
use Rattle.ntriples_reader_dm.proofs.Triples.{line_one}
use Rattle.ntriples_reader_dm.proofs.Cuts.{triples_one}
use Rattle.ntriples_reader_dm.proofs.laws.one_meaning.Goals as goal

pub returns-clause-line : goal.returns-clause-line
returns-clause-line c = λ bytes x y p q. line_one (chars bytes) x y p.1 q.1

pub returns-clause-document : goal.returns-clause-document
returns-clause-document c = λ bytes ts us p q. triples_one (lines bytes) ts us p q
