-- What is told and the run are right edges.
use Rattle.hz_edges.specs.Room.{edges_of}
use Rattle.hz_edges.proofs.RightEdges.{right-edges, ok-all}
use Rattle.hz_edges.proofs.finding.EdgeRoom.find_edges.Goals as goal

pub returns-clause-found : goal.returns-clause-found
returns-clause-found c =
    let change = c.args.change.now in
    ok-all c.find_by_passes.result c.find_by_passes.ensures.inductive c.find_by_passes.ensures.free c.find_by_passes.ensures.still c.find_by_passes.ensures.witness
    (λ inductive free still witness.
    right-edges change.net.now c.args.cap change.input.now change.start.now _ _ (edges_of c.find_by_passes.new.self) c.keeps_shape.ensures.circuit c.keeps_shape.ensures.whole c.requires.results.of_a.begins
    inductive witness free still)
