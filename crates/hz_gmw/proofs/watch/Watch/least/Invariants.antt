use Rattle.std.proofs.Common.{◌≡◌, ◌<◌, ℕ, false}
use Rattle.hz_net.specs.Network.{network_of, bit_at}
use Rattle.hz_gmw.specs.Watches.{is_watched}
use Rattle.hz_gmw.proofs.watch.Watch.least.Given as goal

-- no variable so far is watched
abbrev pub invariant-loop-var : goal.invariant-loop-var
invariant-loop-var l =
    (i : ℕ) → i < l.var → is_watched (network_of l.net) l.current.input.items l.current.state.items (bit_at l.self.changed) (bit_at l.self.been_stable) i ≡ false
