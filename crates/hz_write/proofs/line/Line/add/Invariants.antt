use Rattle.std.proofs.Common.{◌+◌, ◌++◌, length}
use Rattle.hz_write.specs.Writes.{IsBuffered}
use Rattle.hz_write.proofs.line.Line.add.Given as goal

-- the text is what was put, what waits and what is left
abbrev pub invariant-loop-rest : goal.invariant-loop-rest
invariant-loop-rest g l =
    IsBuffered g.K.Sink.output g.K.Sink.faults (l.initial.self ++ l.piece) l.initial.out l.out (l.self ++ l.rest)

-- each turn puts a full buffer
abbrev pub decreases-loop-rest : goal.decreases-loop-rest
decreases-loop-rest g l = length l.self + length l.rest
