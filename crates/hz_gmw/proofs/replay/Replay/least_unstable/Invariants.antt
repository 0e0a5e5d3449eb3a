use Rattle.std.proofs.Common.{◌≡◌, ◌<◌, ℕ, false}
use Rattle.hz_net.specs.Network.{network_of}
use Rattle.hz_gmw.specs.Instability.{is_unstable}
use Rattle.hz_gmw.proofs.replay.Replay.least_unstable.Given as goal

-- no variable so far is unstable
abbrev pub invariant-loop-var : goal.invariant-loop-var
invariant-loop-var l =
    (i : ℕ) → i < l.var → is_unstable (network_of l.self.circuit) l.self.input l.self.state i ≡ false
