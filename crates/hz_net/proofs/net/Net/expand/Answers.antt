use Rattle.std.proofs.Common.{◌≡◌, length, false, arith}
use Rattle.std.proofs.lemmas.List.{ext_get_or}
use Rattle.hz_net.specs.Network.{network_of}
use Rattle.hz_net.specs.Variables.{expansion_of}
use Rattle.hz_net.proofs.Places.{length-expansion_of}
use Rattle.hz_net.proofs.net.Net.expand.Goals as goal

pub returns : goal.returns
returns c =
    let long : length c.loop-var.state ≡ length (network_of c.args.self.now) = omega (arith, c.requires.state, c.loop-var.auto.state) in
    ext_get_or false c.loop-var.state (expansion_of c.args.self.now c.args.nodes.now)
    (omega (arith, long, length-expansion_of c.args.self.now c.args.nodes.now c.len-var-end.ensures.circuit c.requires.nodes))
    (λ i within. c.loop-var.invariant i (omega (arith, within, long, c.len-var-end.ensures.len, c.loop-var-test.false)))
