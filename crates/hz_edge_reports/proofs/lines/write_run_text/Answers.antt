-- The lines before the run, the run, and the line after it.
use Rattle.std.proofs.Common.{◌≡◌, ◌∙◌, Bool, length, refl, sym, ap, arith}
use Rattle.hz_edge_reports.proofs.Words.{append-nil, length-take-le, Netlist, network_of, length-network_of, writes_then, writes_same}
use Rattle.hz_run_text.specs.RunPrinted.{run_text_printed}
use Rattle.hz_edge_reports.proofs.lines.write_run_text.Goals as goal

pub slice_bounds-write_states-end : goal.slice_bounds-write_states-end
slice_bounds-write_states-end g c =
    let nodes : c.nodes-nodes.result ≡ length c.args.net.now.names = c.nodes-nodes.ensures.nodes ∙ ap (λ (n : Netlist). length n.names) c.circuit.ensures.same in
    let long : length c.as_slice.result.now ≡ length (network_of c.args.net.now) = ap (length {A = Bool}) c.as_slice.ensures.value ∙ c.requires.room.start in
    sym (length-take-le c.nodes-nodes.result c.as_slice.result.now (omega (arith, nodes, long, length-network_of c.args.net.now c.keeps_shape.ensures.circuit)))

pub returns-clause-gave : goal.returns-clause-gave
unfolding run_text_printed
returns-clause-gave g c =
    let nodes : c.nodes-nodes.result ≡ length c.args.net.now.names = c.nodes-nodes.ensures.nodes ∙ ap (λ (n : Netlist). length n.names) c.circuit.ensures.same in
    let states = rw (c.circuit-2.ensures.same, c.as_slice.ensures.value, c.as_slice-2.ensures.value, nodes) at c.write_states.ensures.gave in
    let run = writes_same c.write_run.ensures.gave (sym (append-nil _)) in
    writes_then (writes_then states run refl) c.write_end.ensures.gave refl
