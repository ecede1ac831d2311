use Rattle.std.proofs.Common.{chars}
use Rattle.ntriples_reader_dm.proofs.Readers.{subject_node}
use Rattle.ntriples_reader_dm.proofs.line.triple.Goals as goal

pub whole-requires : goal.whole-requires
whole-requires c = subject_node (chars c.args.text.now) (chars c.in_ok-subject.rest.now) c.in_ok-subject.subject c.in_ok-subject.ensures.seen
