use Rattle.std.proofs.Common.{take}
use Rattle.std.specs.List.{flat_map}
use Rattle.outside_dm.specs.Putting.{Written}
use Rattle.cmd_dm.specs.Pieces.{piece_text}
use Rattle.cmd_dm.proofs.fault_line.put_pieces.Given as goal

-- the first parts have been put
abbrev pub invariant-loop-piece : goal.invariant-loop-piece
invariant-loop-piece g l = Written (flat_map piece_text (take l.piece-index l.pieces)) (g.D.Sink.state l.fn.diag) (g.D.Sink.state l.diag)
