use Rattle.std.proofs.Common.{None, Some, chars, subst}
use Rattle.ntriples_reader_dm.specs.declared.fault.LineFault.{LineFault}
use Rattle.ntriples_reader_dm.specs.Reading.{iri_at}
use Rattle.ntriples_reader_dm.specs.Views.{Fails}
use Rattle.ntriples_reader_dm.proofs.Fronts.{iri_front}
use Rattle.ntriples_reader_dm.proofs.terms.iri_in_front.Goals as goal

pub returns-in-Ok-clause-front : goal.returns-in-Ok-clause-front
returns-in-Ok-clause-front c = iri_front (chars c.args.text.now) (Some (c.in-Ok.iri, chars c.in-Ok.rest.now)) c.in-Ok.ensures.seen

pub returns-in-Err-Bad-clause-front : goal.returns-in-Err-Bad-clause-front
returns-in-Err-Bad-clause-front c =
    iri_front (chars c.args.text.now) None (subst (λ (e : LineFault). Fails e (iri_at (chars c.args.text.now))) c.in-Err-Bad.field-0-is c.in-Err-Bad.ensures.seen)
