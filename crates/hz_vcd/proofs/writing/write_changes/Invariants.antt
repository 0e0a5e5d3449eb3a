use Rattle.std.proofs.Common.{take}
use Rattle.std.specs.List.{flat_map}
use Rattle.hz_write.specs.Writer.{Writes, NoneWaits}
use Rattle.hz_vcd.specs.Inside.{change_line}
use Rattle.hz_vcd.proofs.writing.write_changes.Given as goal

-- the bits of the listed variables so far
abbrev pub invariant-loop-var : goal.invariant-loop-var
invariant-loop-var g l =
    Writes g.K.Sink.output g.K.Sink.faults (flat_map (change_line l.state) (take l.var-index l.flips)) l.fn.writer l.writer
    × (NoneWaits l.fn.writer → NoneWaits l.writer)
