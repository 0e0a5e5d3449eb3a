use Rattle.std.proofs.Common.{length}
use Rattle.hz_report.specs.Kept.{HaveBits}
use Rattle.hz_report.proofs.head.set_bits.Given as goal

-- the words so far have their bits
abbrev pub invariant-loop-node : goal.invariant-loop-node
invariant-loop-node l = HaveBits l.net (length l.net.names) l.bits l.node l.text l.begins
