-- All that the writer was given.
use Rattle.std.proofs.Common.{◌≡◌, ◌∙◌, Bool, length, refl, sym, ap, rules, arith}
use Rattle.hz_changes.proofs.Words.{length-take-le, Netlist, network_of, length-network_of, finding_of, writes_then, wrote_whole}
use Rattle.hz_changes.proofs.SplitLines.{split-lines}
use Rattle.hz_changes.proofs.splitting.write_split.Goals as goal

pub slice_bounds-write_states-end : goal.slice_bounds-write_states-end
slice_bounds-write_states-end g c =
    let nodes : c.nodes-nodes.result ≡ length c.args.change.now.net.now.names = c.nodes-nodes.ensures.nodes ∙ ap (λ (n : Netlist). length n.names) c.circuit.ensures.same in
    let long : length c.starts.result.now ≡ length (network_of c.args.change.now.net.now) = ap (length {A = Bool}) c.starts.ensures ∙ c.requires.change.start.long in
    sym (length-take-le c.nodes-nodes.result c.starts.result.now (omega (arith, nodes, long, length-network_of c.args.change.now.net.now c.requires.change.circuit)))

pub returns : goal.returns
returns g c =
    let nodes : c.nodes-nodes.result ≡ length c.args.change.now.net.now.names = c.nodes-nodes.ensures.nodes ∙ ap (λ (n : Netlist). length n.names) c.circuit.ensures.same in
    let outcome = rw c.requires.outcome at c.write_outcome.ensures.gave in
    let states = rw (c.circuit-2.ensures.same, c.starts.ensures, c.as_slice.ensures, nodes) at c.write_states.ensures.gave in
    let text = writes_then (writes_then states c.write_found.ensures.gave refl) c.write_end.ensures.gave refl in
    let lines = writes_then outcome text (split-lines c.args.change.now.net.now c.args.change.now.number (finding_of c.args.change.now.finding.now) c.args.split.now.found) in
    let wrote = wrote_whole _ _ _ _ _ _ _ _ c.new-writer.ensures.begins lines c.finish.ensures in
    search rules
