use Rattle.std.proofs.Common.{◌≡◌, take}
use Rattle.hz_text.specs.Printed.{listed_from}
use Rattle.hz_batch.proofs.held.held_gates.Given as goal

-- those of the nodes so far
abbrev pub invariant-loop-node : goal.invariant-loop-node
invariant-loop-node l = l.gates.items ≡ listed_from 0 (take l.node l.held)
