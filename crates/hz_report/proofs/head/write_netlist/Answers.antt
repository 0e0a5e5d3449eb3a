-- The counts of the circuit.
use Rattle.std.proofs.Common.{◌≡◌, ◌-◌, length, append_assoc}
use Rattle.std.proofs.lemmas.List.{append-nil}
use Rattle.hz_core.specs.Netlist.{variable_count, pin_count}
use Rattle.hz_write.proofs.Writers.{writes_same}
use Rattle.hz_report.specs.Report.{netlist_line}
use Rattle.hz_report.proofs.Lines.{gates-counted, wires-counted}
use Rattle.hz_report.proofs.head.write_netlist.Goals as goal

pub returns-clause-gave : goal.returns-clause-gave
unfolding netlist_line
returns-clause-gave g c =
    let net = c.args.net.now in
    let of_inputs : c.inputs-inputs.result ≡ net.inputs = cc in
    let of_nodes : c.nodes-nodes.result ≡ length net.names = cc in
    let of_variables : c.variables-variables.result ≡ variable_count net = rw c.circuit-circuit.ensures.same at c.variables-variables.ensures.variables in
    let of_gates : c.nodes-nodes.result - c.inputs-inputs.result ≡ length net.gates =
    gates-counted net c.inputs-inputs.result c.nodes-nodes.result c.circuit-circuit.ensures.circuit of_inputs of_nodes in
    let of_wires : c.variables-variables.result - c.nodes-nodes.result ≡ pin_count net =
    wires-counted net c.nodes-nodes.result c.variables-variables.result of_nodes of_variables in
    writes_same c.line.ensures.gave (simp (append_assoc, append-nil) (cc (of_inputs, of_gates, of_wires, of_variables)))
