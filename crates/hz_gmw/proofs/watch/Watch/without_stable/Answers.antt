use Rattle.std.proofs.Common.{arith}
use Rattle.hz_gmw.proofs.Counts.{nodes-among}
use Rattle.hz_gmw.proofs.watch.Watch.without_stable.Goals as goal

pub is_unstable-requires-clause-var : goal.is_unstable-requires-clause-var
is_unstable-requires-clause-var c =
    let below = c.requires.inside c.loop-node.node-index 0 (omega arith) in
    omega (arith, below, nodes-among c.args.net.now c.requires.counted.fits.circuit)

pub contains-requires : goal.contains-requires
contains-requires c =
    let below = c.requires.inside c.loop-node.node-index 0 (omega arith) in
    omega (arith, below, nodes-among c.args.net.now c.requires.counted.fits.circuit, c.requires.fits.changed)
