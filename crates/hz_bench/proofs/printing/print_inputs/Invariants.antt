use Rattle.std.proofs.Common.{◌≡◌, ◌++◌, take, codes}
use Rattle.hz_bench.specs.Printed.{port_lines}
use Rattle.hz_bench.proofs.printing.print_inputs.Given as goal

abbrev pub invariant-loop-node : goal.invariant-loop-node
invariant-loop-node l = l.text.items ≡ l.fn.text.items ++ port_lines (codes "INPUT") (take l.node l.circuit.names)
