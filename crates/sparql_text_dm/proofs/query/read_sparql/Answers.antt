use Rattle.sparql_text_dm.proofs.Accepted.{accepted, is_formed}
use Rattle.sparql_text_dm.proofs.OneAnswer.{one_answer}
use Rattle.sparql_text_dm.proofs.SomeAnswer.{some_answer}
use Rattle.sparql_text_dm.proofs.WrittenBack.{texts_read_back}
use Rattle.sparql_text_dm.proofs.query.read_sparql.Goals as goal

pub returns-clause-formed : goal.returns-clause-formed
returns-clause-formed c = is_formed c.args.bytes.now c.read_text.result c.read_text.ensures

pub returns-clause-one : goal.returns-clause-one
returns-clause-one c = one_answer c.args.bytes.now

pub returns-clause-some : goal.returns-clause-some
returns-clause-some c = some_answer c.args.bytes.now

pub returns-clause-accepted : goal.returns-clause-accepted
returns-clause-accepted c = accepted c.args.bytes.now

pub returns-clause-back : goal.returns-clause-back
returns-clause-back c = texts_read_back
