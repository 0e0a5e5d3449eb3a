use Rattle.std.proofs.Common.{◌≡◌, ◌++◌, take, codes, map}
use Rattle.hz_core.specs.Netlist.{node_name}
use Rattle.hz_bench.specs.Printed.{port_lines}
use Rattle.hz_bench.proofs.printing.print_outputs.Given as goal

abbrev pub invariant-loop-node : goal.invariant-loop-node
invariant-loop-node l = l.text.items ≡ l.fn.text.items ++ port_lines (codes "OUTPUT") (map (node_name l.circuit.names) (take l.node-index l.outputs))
