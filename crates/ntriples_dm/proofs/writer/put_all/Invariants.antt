use Rattle.std.proofs.Common.{take}
use Rattle.std.specs.List.{flat_map}
use Rattle.outside_dm.specs.Putting.{Written}
use Rattle.ntriples_dm.proofs.writer.put_all.Given as goal

-- the first pieces have been put
abbrev pub invariant-loop-piece : goal.invariant-loop-piece
invariant-loop-piece g l = Written (flat_map (λ piece. piece.now) (take l.piece-index l.pieces)) (g.K.Sink.state l.fn.out) (g.K.Sink.state l.out)
