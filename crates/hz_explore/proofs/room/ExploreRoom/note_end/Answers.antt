-- A state has a value for each node, and one change more is counted.
use Rattle.std.proofs.Common.{◌≡◌, ◌∙◌, sym, ap, true, Bool, length, arith}
use Rattle.hz_explore.proofs.Words.{length-take-le, Netlist, length-network_of, changes_in}
use Rattle.hz_explore.proofs.room.ExploreRoom.note_end.Goals as goal

pub returns-in-Some-clause-few : goal.returns-in-Some-clause-few
returns-in-Some-clause-few c = omega (arith, ap changes_in (c.count_unsettled.ensures true))

pub slice_bounds-note-end : goal.slice_bounds-note-end
slice_bounds-note-end c =
    let nodes : c.nodes-nodes.result ≡ length c.args.net.now.names = c.nodes-nodes.ensures.nodes ∙ ap (λ (n : Netlist). length n.names) c.circuit.ensures.same in
    sym (length-take-le c.nodes-nodes.result c.as_slice.result.now
    (omega (arith, nodes, ap (length {A = Bool}) c.as_slice.ensures.value, c.go_on.ensures.room.start, length-network_of c.args.net.now c.keeps_shape.ensures.circuit)))
