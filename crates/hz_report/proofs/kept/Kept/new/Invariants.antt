use Rattle.std.proofs.Common.{[]}
use Rattle.hz_report.specs.Kept.{AreRowParts, HaveBits}
use Rattle.hz_report.proofs.kept.Kept.new.Given as goal

-- a line and a word for each node so far
abbrev pub invariant-loop-node : goal.invariant-loop-node
invariant-loop-node l =
    AreRowParts l.circuit l.node l.rows.text.items l.rows.begins.items
    × HaveBits l.circuit l.node [] 0 l.start.text.items l.start.begins.items
