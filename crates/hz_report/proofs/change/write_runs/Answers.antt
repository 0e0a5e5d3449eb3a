-- The lines before the runs, the two runs, and the line after them.
use Rattle.std.proofs.Common.{◌≡◌, ◌∙◌, Bool, refl, sym, ap, length}
use Rattle.std.proofs.lemmas.List.{append-nil, length-map}
use Rattle.hz_net.specs.Network.{network_of}
use Rattle.hz_desk.specs.declared.finding.Row.{Row}
use Rattle.hz_run_text.specs.RunPrinted.{states_text, run_text_printed}
use Rattle.hz_write.proofs.Writers.{writes_then}
use Rattle.hz_report.specs.Report.{start_line}
use Rattle.hz_report.proofs.Lines.{length-nodes}
use Rattle.hz_report.proofs.change.write_runs.Goals as goal

pub slice_bounds-write_bits-end-2 : goal.slice_bounds-write_bits-end-2
slice_bounds-write_bits-end-2 g c =
    let netlist = c.args.plate.now.netlist in
    let starts = c.starts.result.now in
    let circuit = rw c.net-net.ensures at c.circuit-2.ensures.circuit in
    let nodes : c.nodes-nodes.result ≡ length netlist.names = rw (c.circuit-2.ensures.same, c.net-net.ensures) at c.nodes-nodes.ensures.nodes in
    let long : length starts ≡ length (network_of netlist) =
    ap (length {A = Bool}) c.starts.ensures ∙ length-map c.args.finding.now.rows (λ (row : Row). row.start) ∙ c.requires.rows in
    sym (length-nodes netlist starts c.nodes-nodes.result circuit long nodes)

pub returns-clause-gave : goal.returns-clause-gave
unfolding run_text_printed states_text start_line
returns-clause-gave g c =
    let format = rw (c.circuit.ensures.same, c.net-net.ensures) at c.write_format.ensures.gave in
    let start = rw (c.starts.ensures, c.nodes-nodes.ensures.nodes, c.circuit-2.ensures.same, c.net-net.ensures) at c.write_bits.ensures.gave in
    let input = rw (c.as_slice.ensures, c.write_bits.ensures.same) at c.write_bits-2.ensures.gave in
    let spread = rw c.net-net.ensures at c.write_run.ensures.gave in
    let settle = rw c.net-net.ensures at c.write_run-2.ensures.gave in
    let states = writes_then (writes_then format start refl) input refl in
    let runs = writes_then spread settle (simp append-nil) in
    writes_then (writes_then states runs refl) c.write_end.ensures.gave refl
