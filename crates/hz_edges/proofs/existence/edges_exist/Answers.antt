use Rattle.hz_edges.proofs.EdgesThere.{edges_exist}
use Rattle.hz_edges.proofs.existence.edges_exist.Goals as goal

pub returns : goal.returns
returns c = edges_exist c.words_are_told.ensures c.witnesses_exist.ensures
