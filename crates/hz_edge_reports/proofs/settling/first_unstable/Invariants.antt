-- The variables so far are stable.
use Rattle.std.proofs.Common.{◌≡◌, ℕ, ◌<◌}
use Rattle.hz_net.specs.Network.{network_of, bit_at, excitation}
use Rattle.hz_edge_reports.proofs.settling.first_unstable.Given as goal

abbrev pub invariant-loop-var : goal.invariant-loop-var
invariant-loop-var l = (i : ℕ) → i < l.var → bit_at l.state i ≡ excitation (network_of l.net) l.input l.state i
