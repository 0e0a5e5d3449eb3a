use Rattle.std.proofs.lemmas.Bool.{false≢true}
use Rattle.hz_net.specs.Network.{network_of}
use Rattle.hz_gmw.proofs.ReplayLemmas.{cycle-or-fault}
use Rattle.hz_gmw.proofs.replay.Replay.close.Goals as goal

pub returns-in-Some-clause-exact : goal.returns-in-Some-clause-exact
returns-in-Some-clause-exact c =
    λ steps stands. (
      λ is. absurd (false≢true is),
      λ cycle. absurd (cycle-or-fault (network_of c.args.self.now.circuit) c.args.self.now.input c.args.self.now.marked steps c.in-Some.fault (c.in-Some.ensures steps stands) cycle),
    )
