-- A state has a value for each node.
use Rattle.std.proofs.Common.{◌≡◌, ◌∙◌, sym, ap, length, arith}
use Rattle.hz_explore.proofs.Words.{length-take-le, Netlist, length-network_of}
use Rattle.hz_explore.proofs.room.ExploreRoom.new.Goals as goal

pub slice_bounds-add-end : goal.slice_bounds-add-end
slice_bounds-add-end c =
    let nodes : c.nodes-nodes.result ≡ length c.args.net.now.names = c.nodes-nodes.ensures.nodes ∙ ap (λ (n : Netlist). length n.names) c.circuit-circuit.ensures.same in
    sym (length-take-le c.nodes-nodes.result c.args.start.now (omega (arith, nodes, c.requires, length-network_of c.args.net.now c.keeps_shape.ensures.circuit)))
