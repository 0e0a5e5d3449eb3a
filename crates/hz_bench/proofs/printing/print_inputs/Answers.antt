use Rattle.std.proofs.Common.{arith, codes, take, ◌+◌}
use Rattle.hz_core.specs.Netlist.{node_name}
use Rattle.hz_bench.specs.Printed.{port_line, port_lines}
use Rattle.hz_bench.proofs.PrintedLemmas.{text_more, inputs_more}
use Rattle.hz_bench.proofs.printing.print_inputs.Goals as goal

pub loop-node-preserved : goal.loop-node-preserved
loop-node-preserved c =
    let names = c.args.circuit.now.names in
    text_more c.args.text.now.items c.loop-node.text.items c.print_port.new.text.items (port_lines (codes "INPUT") (take c.loop-node.node names)) (port_line (codes "INPUT") (node_name names c.loop-node.node)) (port_lines (codes "INPUT") (take (c.loop-node.node + 1) names))
    c.loop-node.invariant c.in_ok-print_port.ensures (inputs_more (codes "INPUT") names c.loop-node.node (omega (arith, c.loop-node-test.true, c.primary_inputs-node-end.ensures.inputs, c.primary_inputs-node-end.ensures.circuit.nodes)))
