use Rattle.std.proofs.Common.{chars}
use Rattle.ntriples_reader_dm.proofs.Readers.{label_text_allowed}
use Rattle.ntriples_reader_dm.proofs.names.label.Goals as goal

pub of_grammar-requires : goal.of_grammar-requires
of_grammar-requires c = label_text_allowed _ (chars c.in_ok-label.rest.now) c.in_ok-label.label c.in_ok-label.ensures.seen
