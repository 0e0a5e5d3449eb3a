-- There is a mark for each variable.
use Rattle.hz_net.specs.Network.{network_of}
use Rattle.hz_split.proofs.WalkLemmas.{long-marks}
use Rattle.hz_split.proofs.walk.Walk.begin.Goals as goal

pub look_at_all-requires-clause-set : goal.look_at_all-requires-clause-set
look_at_all-requires-clause-set c =
    let was = c.self.inside in long-marks (network_of was.net.now) was.input.items was.state.items was.unstable c.self.invariant.unstable
