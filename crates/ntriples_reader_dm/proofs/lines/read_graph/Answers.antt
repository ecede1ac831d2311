use Rattle.ntriples_reader_dm.proofs.OneAnswer.{one_answer, written_back}
use Rattle.ntriples_reader_dm.proofs.lines.read_graph.Goals as goal

pub returns-clause-one : goal.returns-clause-one
returns-clause-one c = one_answer c.args.bytes.now

pub returns-clause-written : goal.returns-clause-written
returns-clause-written c = λ triples lawful few is. written_back c.args.bytes.now c.read_lines.result c.read_lines.ensures triples lawful few is
