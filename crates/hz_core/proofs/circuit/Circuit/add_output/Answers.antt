use Rattle.std.proofs.Common.{◌<◌, length, sym, subst}
use Rattle.hz_core.specs.Netlist.{Netlist}
use Rattle.hz_core.specs.Inside.{netlist_of_fields}
use Rattle.hz_core.proofs.CircuitLemmas.{IsCircuit-with_output}
use Rattle.hz_core.proofs.circuit.Circuit.add_output.Goals as goal

pub invariant_of-self-2 : goal.invariant_of-self-2
invariant_of-self-2 c =
    let is_node = subst (λ (netlist : Netlist). c.args.node < length netlist.names) (sym c.self.view_is) c.requires in
    record {
      circuit = rw c.in-Ok.ensures.ok (IsCircuit-with_output (netlist_of_fields c.self.inside) c.args.node c.self.invariant.circuit is_node);
      counted = c.self.invariant.counted;
    }
