use Rattle.std.proofs.Common.{arith}
use Rattle.hz_reach.proofs.Words.{length-network_of}
use Rattle.hz_reach.proofs.turn.turn_gate.Goals as goal

pub step_alone-requires-clause-inside : goal.step_alone-requires-clause-inside
step_alone-requires-clause-inside c = omega (arith, c.requires.gate.1, c.requires.scratch.long, length-network_of c.args.net.now c.requires.circuit)
