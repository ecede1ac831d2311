use Rattle.std.proofs.Common.{chars}
use Rattle.ntriples_reader_dm.proofs.Readers.{tag_text_allowed}
use Rattle.ntriples_reader_dm.proofs.names.tag.Goals as goal

pub of_grammar-requires : goal.of_grammar-requires
of_grammar-requires c = tag_text_allowed _ (chars c.in_ok-tag.rest.now) c.in_ok-tag.tag c.in_ok-tag.ensures.seen
