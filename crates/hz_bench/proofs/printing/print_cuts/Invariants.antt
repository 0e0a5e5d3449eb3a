use Rattle.std.proofs.Common.{◌≡◌, ◌++◌, ◌-◌, take}
use Rattle.hz_core.specs.Netlist.{primary_inputs}
use Rattle.hz_bench.specs.Printed.{cut_lines}
use Rattle.hz_bench.proofs.printing.print_cuts.Given as goal

abbrev pub invariant-loop-cut : goal.invariant-loop-cut
invariant-loop-cut l = l.text.items ≡ l.fn.text.items ++ cut_lines l.circuit.names (primary_inputs l.circuit) (take (l.cut - primary_inputs l.circuit) l.circuit.cuts)
