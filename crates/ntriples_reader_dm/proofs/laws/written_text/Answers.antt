use Rattle.ntriples_reader_dm.proofs.ReadBack.{text_reads_back}
use Rattle.ntriples_reader_dm.proofs.laws.written_text.Goals as goal

pub returns : goal.returns
returns c = λ ts h. text_reads_back ts h
