-- The cycles are those of the network.
use Rattle.hz_net.specs.Network.{network_of}
use Rattle.hz_report.proofs.CycleLemmas.{cycle-within}
use Rattle.hz_report.proofs.head.write_feedback.Goals as goal

pub write_cycle-requires : goal.write_cycle-requires
write_cycle-requires g c =
    cycle-within (network_of c.args.net.now) c.cycle.result.now (c.cycle.ensures.is_cycle c.args.net.now c.requires.part)
