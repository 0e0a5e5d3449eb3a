use Rattle.std.proofs.Common.{rules, ◌≡◌, ◌≢◌, ◌+◌, ◌∙◌, ◌<◌, refl, sym, subst, arith}
use Rattle.hz_core.specs.declared.tri.Tri.TheVariants.{Unknown}
use Rattle.hz_net.specs.Network.{value_at}
use Rattle.hz_net.specs.Variables.{first_wire}
use Rattle.hz_net.proofs.Places.{length-network_of}
use Rattle.hz_pass.specs.Sweep.{IsSweptTo}
use Rattle.hz_pass.proofs.SweepLemmas.{first_wire-input, swept-next}
use Rattle.hz_pass.proofs.sweep.sweep_node.Goals.{then-inputs-node+else-not-take_pins, else-inputs-node}
use Rattle.hz_pass.proofs.sweep.sweep_node.Goals as goal

pub bounds-values-node : goal.bounds-values-node
bounds-values-node c = omega (arith, c.requires.node, c.requires.values, length-network_of c.args.net.now c.requires.circuit)

pub returns : goal.returns
returns c = λ listed long before is_known.
    let netlist = c.args.net.now in
    let node = c.args.node in
    let values = c.if-inputs-node.values in
    let end = first_wire netlist (node + 1) in
    let known : value_at values node ≢ Unknown = search rules in
    elim c.if-inputs-node.branch [
      | then-inputs-node+else-not-take_pins w ↦ (
          let taken = w.take_pins.ensures listed long before (search rules) in
          let given = w.give_value.ensures listed end long (omega arith) taken in
          swept-next netlist listed c.requires.circuit long values node end end refl known
          (subst (IsSweptTo netlist listed node end) (sym w.values-is) given)
          )
      | else-inputs-node w ↦ (
          let input : node < netlist.inputs = search rules in
          let same : first_wire netlist node ≡ end =
          first_wire-input netlist listed c.requires.circuit long node (omega (arith, input)) ∙ sym (first_wire-input netlist listed c.requires.circuit long (node + 1) (omega (arith, input))) in
          swept-next netlist listed c.requires.circuit long values node (first_wire netlist node) end same known
          (subst (IsSweptTo netlist listed node (first_wire netlist node)) (sym w.values-is) before)
          )
    ]
