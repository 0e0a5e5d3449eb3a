use Rattle.std.proofs.Common.{codes, take, ◌+◌, map, get_or}
use Rattle.hz_core.specs.Netlist.{node_name}
use Rattle.hz_bench.specs.Printed.{port_line, port_lines}
use Rattle.hz_bench.proofs.PrintedLemmas.{text_more, outputs_more}
use Rattle.hz_bench.proofs.printing.print_outputs.Goals as goal

pub loop-node-preserved : goal.loop-node-preserved
loop-node-preserved c =
    let names = c.args.circuit.now.names in
    let outputs = c.outputs-outputs.result.now in
    let index = c.loop-node.node-index in
    text_more c.args.text.now.items c.loop-node.text.items c.print_port.new.text.items (port_lines (codes "OUTPUT") (map (node_name names) (take index outputs))) (port_line (codes "OUTPUT") (node_name names (get_or outputs index 0))) (port_lines (codes "OUTPUT") (map (node_name names) (take (index + 1) outputs)))
    c.loop-node.invariant c.in_ok-print_port.ensures (outputs_more (codes "OUTPUT") names outputs index c.loop-node-test.true)
