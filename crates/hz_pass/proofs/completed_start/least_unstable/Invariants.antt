use Rattle.std.proofs.Common.{◌≡◌, ℕ, ◌<◌, ◌≤◌, length, take}
use Rattle.hz_net.specs.Network.{network_of, bit_at, excitation}
use Rattle.hz_pass.proofs.completed_start.least_unstable.Given as goal

-- the gates so far are stable
abbrev pub invariant-loop-gate : goal.invariant-loop-gate
invariant-loop-gate l =
    (l.gate-end ≡ length l.net.names) × (l.initial.gate ≡ l.net.inputs)
    × (l.input ≡ take l.net.inputs l.state)
    × ((other : ℕ) → l.net.inputs ≤ other → other < l.gate → bit_at l.state other ≡ excitation (network_of l.net) (take l.net.inputs l.state) l.state other)
