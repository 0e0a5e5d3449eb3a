use Rattle.std.proofs.Common.{◌≡◌}
use Rattle.std.specs.List.{slice_range}
use Rattle.hz_net.specs.Network.{network_of}
use Rattle.hz_desk.specs.RunProgress.{IsAlong}
use Rattle.hz_desk.proofs.races.races_before.Given as goal

-- the follower is on its way, on the same circuit and under the same input
abbrev pub invariant-loop-number : goal.invariant-loop-number
invariant-loop-number l =
    IsAlong (network_of l.fn.follower.circuit) l.fn.follower.input l.fn.follower.state (slice_range l.run.steps l.from l.to) (slice_range l.run.steps l.number l.to) l.races l.follower.state
    × (l.follower.circuit ≡ l.fn.follower.circuit) × (l.follower.input ≡ l.fn.follower.input)
