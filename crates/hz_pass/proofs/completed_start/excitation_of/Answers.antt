use Rattle.std.proofs.Common.{arith}
use Rattle.hz_net.proofs.Places.{length-network_of}
use Rattle.hz_pass.proofs.completed_start.excitation_of.Goals as goal

pub bounds : goal.bounds
bounds c = omega (arith, c.requires.gate.1, c.requires.listed)

pub excite-requires-clause-var : goal.excite-requires-clause-var
excite-requires-clause-var c = omega (arith, c.requires.gate.1, length-network_of c.args.net.now c.requires.circuit)

pub bounds-state-gate : goal.bounds-state-gate
bounds-state-gate c = omega (arith, c.requires.gate.1, c.requires.state, length-network_of c.args.net.now c.requires.circuit)
