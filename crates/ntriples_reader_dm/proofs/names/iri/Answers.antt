use Rattle.std.proofs.Common.{chars}
use Rattle.ntriples_reader_dm.proofs.Readers.{iri_allowed}
use Rattle.ntriples_reader_dm.proofs.names.iri.Goals as goal

pub of_grammar-requires : goal.of_grammar-requires
of_grammar-requires c = iri_allowed (chars c.in_ok-rest.rest.now) (chars c.in_ok-text.rest.now) c.in_ok-text.text c.in_ok-text.ensures.seen
