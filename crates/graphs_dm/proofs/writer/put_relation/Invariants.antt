use Rattle.std.proofs.Common.{Ok}
use Rattle.members_dm.specs.Places.{levels}
use Rattle.graphs_dm.specs.Graphs.{first_row}
use Rattle.graphs_dm.specs.Levels.{from_first, relation_row_level, text_of}
use Rattle.pages_dm.specs.Streams.{Streams}
use Rattle.graphs_dm.proofs.writer.put_relation.Given as goal

-- the lines of the first rows have been gathered
abbrev pub invariant-loop-i : goal.invariant-loop-i
invariant-loop-i g l =
    Streams (text_of l.source.base.now (levels l.i (from_first (first_row l.source.first_rows.now l.t) (relation_row_level l.source.base.now l.source.database.now l.t l.sides)))) (g.K.Sink.state l.fn.out) l.fn.page.items (g.K.Sink.state l.out) l.page.items (Ok tt)
