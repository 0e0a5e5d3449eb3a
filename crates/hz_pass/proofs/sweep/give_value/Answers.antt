use Rattle.std.proofs.Common.{rules, ◌≡◌, arith}
use Rattle.hz_core.specs.declared.tri.Tri.TheVariants.{Unknown}
use Rattle.hz_net.specs.Network.{value_at}
use Rattle.hz_net.proofs.Places.{length-network_of}
use Rattle.hz_pass.proofs.SweepLemmas.{swept-gate}
use Rattle.hz_pass.proofs.sweep.give_value.Goals as goal

pub bounds-values-gate : goal.bounds-values-gate
bounds-values-gate c = omega (arith, c.requires.gate.1, c.requires.values, length-network_of c.args.net.now c.requires.circuit)

pub returns : goal.returns
returns c = λ listed end long all swept.
    let unknown : value_at c.args.values.now c.args.gate ≡ Unknown = search rules in
    swept-gate c.args.net.now listed c.requires.circuit long c.args.values.now c.args.gate end c.extend.result c.requires.gate all unknown c.extend.ensures swept
