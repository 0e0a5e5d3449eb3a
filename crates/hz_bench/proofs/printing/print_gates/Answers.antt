use Rattle.std.proofs.Common.{arith, take, ◌+◌, ◌-◌, []}
use Rattle.hz_core.specs.declared.kind.Kind.TheVariants.{And}
use Rattle.hz_core.specs.Netlist.{gate_at, node_name}
use Rattle.hz_bench.specs.Printed.{gate_line, gate_texts}
use Rattle.hz_bench.proofs.PrintedLemmas.{text_more, gates_more}
use Rattle.hz_bench.proofs.printing.print_gates.Goals as goal

pub loop-gate-preserved : goal.loop-gate-preserved
loop-gate-preserved c =
    let all = c.args.circuit.now in
    let gate = c.loop-gate.gate in
    text_more c.args.text.now.items c.loop-gate.text.items c.print_gate.new.text.items (gate_texts all.names all.inputs (take (gate - all.inputs) all.gates)) (gate_line all.names (node_name all.names gate) (gate_at all gate)) (gate_texts all.names all.inputs (take (gate + 1 - all.inputs) all.gates))
    c.loop-gate.invariant c.in_ok-print_gate.ensures (gates_more all.names all.inputs all.gates gate (record { kind = And; sources = [] })
    (omega (arith, c.loop-gate.auto.gate, c.inputs-gate.ensures.inputs)) (omega (arith, c.loop-gate-test.true, c.nodes-gate-end.ensures.nodes, c.inputs-gate.ensures.circuit.nodes)))
