use Rattle.std.proofs.Common.{◌≡◌, ◌+◌, drop, length}
use Rattle.hz_netlist.specs.Draft.{with_nodes_from}
use Rattle.hz_netlist.proofs.draft.number_names.Given as goal

abbrev pub invariant-loop-number : goal.invariant-loop-number
invariant-loop-number l = record {
  rest : with_nodes_from l.node l.nodes.items (drop l.number-index l.names) ≡ with_nodes_from l.first l.fn.nodes.items l.names;
  long : length l.nodes.items ≡ length l.fn.nodes.items;
  node_is : l.node ≡ l.first + l.number-index;
}
