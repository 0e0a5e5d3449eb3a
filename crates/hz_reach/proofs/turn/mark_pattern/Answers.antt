use Rattle.std.proofs.Common.{arith}
use Rattle.hz_reach.proofs.Words.{length-network_of}
use Rattle.hz_reach.proofs.turn.mark_pattern.Goals as goal

pub mark_changed-requires-clause-few : goal.mark_changed-requires-clause-few
mark_changed-requires-clause-few c =
    omega (arith, c.requires.scratch.long, length-network_of c.args.net.now c.circuit.ensures.circuit, c.circuit.ensures.circuit.variables)
