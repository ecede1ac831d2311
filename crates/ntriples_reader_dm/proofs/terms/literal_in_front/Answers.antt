use Rattle.std.proofs.Common.{chars, subst}
use Rattle.ntriples_reader_dm.specs.declared.fault.LineFault.{LineFault}
use Rattle.ntriples_reader_dm.specs.Reading.{quoted_at}
use Rattle.ntriples_reader_dm.specs.Views.{Fails}
use Rattle.ntriples_reader_dm.proofs.Fronts.{literal_missing, literal_read}
use Rattle.ntriples_reader_dm.proofs.terms.literal_in_front.Goals as goal

pub returns-in_ok-kind-in-Ok-clause-front : goal.returns-in_ok-kind-in-Ok-clause-front
returns-in_ok-kind-in-Ok-clause-front c =
    literal_read (chars c.args.text.now) (chars c.in-Ok.rest.now) (chars c.in_ok-kind-in-Ok.rest.now) c.in-Ok.letters c.in_ok-kind-in-Ok.kind c.new.result c.in-Ok.ensures.seen c.in_ok-kind-in-Ok.ensures.seen c.new.ensures

pub returns-in-Err-Bad-clause-front : goal.returns-in-Err-Bad-clause-front
returns-in-Err-Bad-clause-front c =
    literal_missing (chars c.args.text.now) (subst (λ (e : LineFault). Fails e (quoted_at (chars c.args.text.now))) c.in-Err-Bad.field-0-is c.in-Err-Bad.ensures.seen)
