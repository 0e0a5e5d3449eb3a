use Rattle.std.proofs.Common.{◌≡◌, ◌++◌, ◌-◌, take}
use Rattle.hz_bench.specs.Printed.{gate_texts}
use Rattle.hz_bench.proofs.printing.print_gates.Given as goal

abbrev pub invariant-loop-gate : goal.invariant-loop-gate
invariant-loop-gate l = l.text.items ≡ l.fn.text.items ++ gate_texts l.circuit.names l.circuit.inputs (take (l.gate - l.circuit.inputs) l.circuit.gates)
