use Rattle.hz_bench.specs.Printed.{netlist_text}
use Rattle.hz_bench.proofs.PrintedCircuit.{printed-circuit}
use Rattle.hz_bench.proofs.PrintedFaults.{printed-faultless}
use Rattle.hz_bench.proofs.printing.print.Goals as goal

pub returns-clause-faultless : goal.returns-clause-faultless
unfolding netlist_text
returns-clause-faultless c =
    rw (c.in_ok-print_gates.ensures, c.in_ok-print_cuts.ensures, c.in_ok-print_outputs.ensures, c.in_ok-print_inputs.ensures.text, c.new-text.ensures.items) (printed-faultless c.args.circuit.now c.in_ok-print_inputs.ensures.circuit c.requires)

pub returns-clause-circuit : goal.returns-clause-circuit
unfolding netlist_text
returns-clause-circuit c =
    rw (c.in_ok-print_gates.ensures, c.in_ok-print_cuts.ensures, c.in_ok-print_outputs.ensures, c.in_ok-print_inputs.ensures.text, c.new-text.ensures.items) (printed-circuit c.args.circuit.now c.in_ok-print_inputs.ensures.circuit c.requires)
