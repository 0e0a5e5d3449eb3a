use Rattle.std.proofs.Common.{◌≡◌, ◌+◌, take, drop}
use Rattle.hz_batch.specs.Comes.{comes_to}
use Rattle.hz_batch.specs.Inside.{IsRoomFor}
use Rattle.hz_batch.specs.Written.{AreWritten}
use Rattle.hz_batch.proofs.blocks.write_lanes.Given as goal

-- the lines of the lanes so far
abbrev pub invariant-loop-lane : goal.invariant-loop-lane
invariant-loop-lane g l =
    AreWritten g.K.Sink.output g.K.Sink.faults l.work.net.now (comes_to l.work.job l.work.net.now l.work.patterns.now.held) (take l.lane (drop l.first l.work.patterns.now.patterns)) (l.first + 1) l.fn.writer l.writer l.fn.room.counts l.room.counts
    × IsRoomFor l.work.net.now l.room
    × (l.room.columns ≡ l.fn.room.columns)
