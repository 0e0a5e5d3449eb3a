use Rattle.std.proofs.Common.{◌<◌, subst, length, IsTrue}
use Rattle.hz_net.specs.Network.{network_of, bit_at}
use Rattle.hz_lists.specs.Least.{IsLeastOf}
use Rattle.hz_gmw.specs.Replayer.{Replayer}
use Rattle.hz_gmw.proofs.replay.Replay.least_watched.Goals as goal

pub returns : goal.returns
returns c =
    subst (λ (now : Replayer). IsLeastOf (λ i. (i < length (network_of now.circuit)) × IsTrue (bit_at now.watched i)) c.least.result) c.self.view_is c.least.ensures
