use Rattle.std.proofs.Common.{map, take}
use Rattle.hz_changes.proofs.Words.{flat_map, Writes, NoneWaits, run_text, closed}
use Rattle.hz_changes.proofs.splitting.write_found.Given as goal

-- the runs so far
abbrev pub invariant-loop-number : goal.invariant-loop-number
invariant-loop-number g l =
    (Writes g.K.Sink.output g.K.Sink.faults (flat_map (run_text l.net) (map closed (take l.number l.split.found))) l.fn.writer l.writer)
    × NoneWaits l.writer
