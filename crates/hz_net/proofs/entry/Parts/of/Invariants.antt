use Rattle.hz_net.proofs.Parts.{AreListedTo}
use Rattle.hz_net.proofs.entry.Parts.of.Given as goal

abbrev pub invariant-loop-gate : goal.invariant-loop-gate
invariant-loop-gate l = AreListedTo l.circuit l.gate l.gates.items l.goes.items l.comes.items
