-- One variable more.
use Rattle.std.proofs.Common.{refl}
use Rattle.hz_net.specs.Network.{network_of}
use Rattle.hz_witness.specs.Witness.{DoesChange}
use Rattle.hz_witness.proofs.Below.{below-more}
use Rattle.hz_witness.proofs.check.do_nodes_change.Goals as goal

pub loop-var-preserved : goal.loop-var-preserved
loop-var-preserved c =
    below-more (DoesChange (network_of c.args.net.now) c.args.a.now c.args.counts.now) c.loop-var.var c.loop-var.invariant (c.if-not-does_change.ensures refl)
