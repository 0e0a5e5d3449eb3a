-- By the lemma of this crate.
use Rattle.hz_net.specs.Network.{network_of}
use Rattle.hz_net.proofs.Wired.{wired-network_of}
use Rattle.hz_free.proofs.Existence.{cycles-exist}
use Rattle.hz_free.proofs.feedback_exists.Goals as goal

pub returns : goal.returns
returns c = λ netlist circuit. cycles-exist (network_of netlist) (wired-network_of netlist circuit)
