use Rattle.std.proofs.Common.{take}
use Rattle.std.specs.List.{flat_map}
use Rattle.hz_write.specs.Pieces.{piece_text}
use Rattle.hz_write.specs.Writer.{Writes}
use Rattle.hz_write.proofs.writer.Writer.add.Given as goal

-- the pieces so far were given
abbrev pub invariant-loop-piece : goal.invariant-loop-piece
invariant-loop-piece g l =
    Writes g.K.Sink.output g.K.Sink.faults (flat_map piece_text (take l.piece-index l.pieces)) l.initial.self l.self
