use Rattle.std.proofs.Common.{◌≡◌, ◌*◌, take}
use Rattle.hz_batch.specs.Blocks.{planes_after}
use Rattle.hz_batch.specs.Comes.{comes_to, loaded_by}
use Rattle.hz_batch.specs.Counts.{no_counts}
use Rattle.hz_batch.specs.Inside.{IsRoomFor}
use Rattle.hz_batch.specs.Written.{AreWritten}
use Rattle.hz_batch.proofs.blocks.write_blocks.Given as goal

-- the blocks so far
abbrev pub invariant-loop-block : goal.invariant-loop-block
invariant-loop-block g l =
    AreWritten g.K.Sink.output g.K.Sink.faults l.work.net.now (comes_to l.work.job l.work.net.now l.work.patterns.now.held) (take (l.block * 512) l.work.patterns.now.patterns) 1 l.fn.writer l.writer no_counts l.room.counts
    × IsRoomFor l.work.net.now l.room
    × (l.planes ≡ planes_after (loaded_by l.work.job l.work.patterns.now) l.fn.planes l.block)
