-- The result of Algorithm A is as long as the network.
use Rattle.std.proofs.Common.{length, ap, arith}
use Rattle.hz_net.specs.Network.{network_of}
use Rattle.hz_net.proofs.Sequences.{length-algorithm_a}
use Rattle.hz_bounds.proofs.telling.known.Goals as goal

pub bounds-telling-place-2 : goal.bounds-telling-place-2
bounds-telling-place-2 c =
    let can = c.requires.telling in
    let long = length-algorithm_a (network_of c.args.telling.now.net.now) c.args.telling.now.input.now c.args.telling.now.start.now can.start.long can.result.0 in
    omega (arith, c.requires.var, ap length can.result.2, long)
