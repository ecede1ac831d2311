use Rattle.ntriples_reader_dm.specs.Lawful.{IsIri}
use Rattle.graph_texts_dm.proofs.Texts.{base_lawful, exactly, reads_back}
use Rattle.graph_texts_dm.proofs.laws.texts_read_back.Goals as goal

pub returns-clause-document : goal.returns-clause-document
returns-clause-document c = λ name text is.
    let base : IsIri c.args.base.now = base_lawful c.args.base.now c.as_str.result.now c.as_str.ensures.grammar c.as_str.ensures.chars c.as_str.utf8 in
    let r = reads_back c.args.base.now base c.args.database.now c.schema.ensures.fits name text is in
    (r.0, r.1)

pub returns-clause-exact : goal.returns-clause-exact
returns-clause-exact c = λ name text triples is document.
    let base : IsIri c.args.base.now = base_lawful c.args.base.now c.as_str.result.now c.as_str.ensures.grammar c.as_str.ensures.chars c.as_str.utf8 in
    exactly c.args.base.now base c.args.database.now c.schema.ensures.fits name text triples is document
