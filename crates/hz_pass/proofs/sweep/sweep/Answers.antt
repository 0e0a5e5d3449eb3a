use Rattle.std.proofs.Common.{◌≡◌, length, ap, subst, arith}
use Rattle.hz_core.specs.Netlist.{Netlist}
use Rattle.hz_net.specs.Variables.{first_wire}
use Rattle.hz_pass.specs.Sweep.{IsSweptTo}
use Rattle.hz_pass.proofs.SweepLemmas.{first_wire-end}
use Rattle.hz_pass.proofs.sweep.sweep.Goals as goal

pub returns : goal.returns
returns c =
    let netlist = c.args.net.now in
    let nodes : c.loop-node.node ≡ length netlist.names = omega (arith, c.nodes-node-end.ensures.nodes, ap (λ (n : Netlist). length n.names) c.circuit.ensures.same) in
    record {
      swept = λ listed long before _.
          subst (λ end. IsSweptTo netlist listed (length netlist.names) end c.loop-node.values) (first_wire-end netlist listed c.requires.circuit long)
          (subst (λ node. IsSweptTo netlist listed node (first_wire netlist node) c.loop-node.values) nodes (c.loop-node.invariant listed long before));
    }
