-- There are edges of every change.
use Rattle.hz_net.specs.Network.{network_of}
use Rattle.hz_witness.specs.Existence.{WitnessesExist}
use Rattle.hz_bounds.specs.Existence.{WordsAreTold}
use Rattle.hz_edges.specs.Edges.{EdgesOf}
use Rattle.hz_edges.specs.EdgesExist.{EdgesExist}
use Rattle.hz_edges.proofs.RightEdges.{right-edges}

pub edges_exist : WordsAreTold → WitnessesExist → EdgesExist
edges_exist words witnesses netlist input start cap a b circuit whole begins low high of_a of_b =
    let told = words netlist input start a cap circuit whole begins of_a in
    let witness = witnesses netlist input start a b circuit begins of_a of_b in
    let edges : EdgesOf = record { told = told.0; steps = witness.0; counts = witness.1 } in
    (edges, right-edges netlist cap input start a b edges circuit whole begins told.1 witness.2 told.2 told.3)
