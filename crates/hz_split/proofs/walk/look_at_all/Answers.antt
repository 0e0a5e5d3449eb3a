-- All marks are right.
use Rattle.std.proofs.Common.{arith}
use Rattle.hz_net.specs.Network.{network_of}
use Rattle.hz_gmw.proofs.ReplayLemmas.{unstable-list}
use Rattle.hz_split.proofs.walk.look_at_all.Goals as goal

pub returns : goal.returns
returns c =
    unstable-list (network_of c.args.net.now) c.args.input.now c.args.state.now c.loop-var.unstable c.loop-var.invariant.0
    (λ i within. c.loop-var.invariant.1 i (omega (arith, within, c.loop-var-test.false, c.len-var-end.ensures.len)))
