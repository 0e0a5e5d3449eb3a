use Rattle.std.proofs.Common.{arith}
use Rattle.hz_net.proofs.Places.{length-network_of}
use Rattle.hz_pass.proofs.completed_start.least_open.Goals as goal

pub bounds-values-node : goal.bounds-values-node
bounds-values-node c = omega (arith, c.requires.values, length-network_of c.args.net.now c.requires.circuit)
