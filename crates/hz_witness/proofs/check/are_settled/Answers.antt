-- One variable more.
use Rattle.std.proofs.Common.{refl}
use Rattle.hz_net.specs.Network.{network_of}
use Rattle.hz_witness.specs.Witness.{IsSettledAt}
use Rattle.hz_witness.proofs.Below.{below-more}
use Rattle.hz_witness.proofs.check.are_settled.Goals as goal

pub loop-var-preserved : goal.loop-var-preserved
loop-var-preserved c =
    below-more (IsSettledAt (network_of c.args.net.now) c.args.input.now c.args.b.now c.args.state.now) c.loop-var.var c.loop-var.invariant (c.if-not-is_settled.ensures refl)
