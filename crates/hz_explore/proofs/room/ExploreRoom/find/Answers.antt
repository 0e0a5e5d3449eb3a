-- There is a place for each node, and the classes are those of the change.
use Rattle.std.proofs.Common.{◌≡◌, ◌∙◌, ap, length, arith}
use Rattle.hz_explore.proofs.Words.{Netlist, length-network_of}
use Rattle.hz_explore.proofs.room.ExploreRoom.find.Goals as goal

pub count_classes-requires-clause-start : goal.count_classes-requires-clause-start
count_classes-requires-clause-start c =
    let nodes : c.nodes-nodes.result ≡ length c.args.making.now.net.now.names = c.nodes-nodes.ensures.nodes ∙ ap (λ (n : Netlist). length n.names) c.circuit.ensures.same in
    omega (arith, nodes, c.find.ensures.room.start, length-network_of c.args.making.now.net.now c.requires.making.circuit)

pub count_classes-requires-clause-ends : goal.count_classes-requires-clause-ends
count_classes-requires-clause-ends c =
    let nodes : c.nodes-nodes.result ≡ length c.args.making.now.net.now.names = c.nodes-nodes.ensures.nodes ∙ ap (λ (n : Netlist). length n.names) c.circuit.ensures.same in
    omega (arith, nodes, c.find.ensures.room.ends, length-network_of c.args.making.now.net.now c.requires.making.circuit)

pub count_classes-requires-clause-told : goal.count_classes-requires-clause-told
count_classes-requires-clause-told c =
    let nodes : c.nodes-nodes.result ≡ length c.args.making.now.net.now.names = c.nodes-nodes.ensures.nodes ∙ ap (λ (n : Netlist). length n.names) c.circuit.ensures.same in
    omega (arith, nodes, c.find.ensures.room.edges.told, length-network_of c.args.making.now.net.now c.requires.making.circuit)

pub count_classes-requires-clause-counts : goal.count_classes-requires-clause-counts
count_classes-requires-clause-counts c =
    let nodes : c.nodes-nodes.result ≡ length c.args.making.now.net.now.names = c.nodes-nodes.ensures.nodes ∙ ap (λ (n : Netlist). length n.names) c.circuit.ensures.same in
    omega (arith, nodes, c.find.ensures.room.edges.counts, length-network_of c.args.making.now.net.now c.requires.making.circuit)

pub returns-clause-classes : goal.returns-clause-classes
returns-clause-classes c =
    let nodes : c.nodes-nodes.result ≡ length c.args.making.now.net.now.names = c.nodes-nodes.ensures.nodes ∙ ap (λ (n : Netlist). length n.names) c.circuit.ensures.same in
    rw nodes at c.count_classes.ensures
