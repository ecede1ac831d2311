use Rattle.inverse_dm.proofs.OneAnswer.{accepted, determined_of, refused, refuses_beyond}
use Rattle.inverse_dm.proofs.inversion.invert.Goals as goal

pub returns-clause-determined : goal.returns-clause-determined
returns-clause-determined c = determined_of c.args.base.now c.naming_laws.ensures c.args.triples.now c.answer.result c.answer.ensures.ok

pub returns-clause-accepted : goal.returns-clause-accepted
returns-clause-accepted c = accepted c.args.base.now c.naming_laws.ensures c.args.triples.now c.answer.result c.answer.ensures.ok c.answer.ensures.err

pub returns-clause-refused : goal.returns-clause-refused
returns-clause-refused c = refused c.args.base.now c.naming_laws.ensures c.args.triples.now c.answer.result c.answer.ensures.ok c.answer.ensures.err

pub returns-clause-beyond : goal.returns-clause-beyond
returns-clause-beyond c = λ error tables stands exceeds.
    refused c.args.base.now c.naming_laws.ensures c.args.triples.now c.answer.result c.answer.ensures.ok c.answer.ensures.err error
    (refuses_beyond c.args.base.now c.naming_laws.ensures c.args.triples.now error tables stands exceeds)
