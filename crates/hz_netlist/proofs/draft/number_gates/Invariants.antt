use Rattle.std.proofs.Common.{◌≡◌, ◌+◌, drop, length}
use Rattle.hz_netlist.specs.Draft.{with_gate_nodes}
use Rattle.hz_netlist.proofs.draft.number_gates.Given as goal

abbrev pub invariant-loop-gate : goal.invariant-loop-gate
invariant-loop-gate l = record {
  rest : with_gate_nodes l.node l.nodes.items (drop l.gate-index l.gates) ≡ with_gate_nodes l.first l.fn.nodes.items l.gates;
  long : length l.nodes.items ≡ length l.fn.nodes.items;
  node_is : l.node ≡ l.first + l.gate-index;
}
