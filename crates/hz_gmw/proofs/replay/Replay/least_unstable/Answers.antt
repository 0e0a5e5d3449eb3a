use Rattle.std.proofs.Common.{◌≡◌, ◌<◌, ℕ, subst, length, arith}
use Rattle.hz_net.specs.Network.{network_of, IsUnstable}
use Rattle.hz_gmw.specs.Instability.{unstable_count}
use Rattle.hz_gmw.specs.Replayer.{Replayer}
use Rattle.hz_gmw.proofs.ReplayLemmas.{none-unstable}
use Rattle.hz_gmw.proofs.replay.Replay.least_unstable.Goals as goal

pub returns-then-self-eq0 : goal.returns-then-self-eq0
returns-then-self-eq0 c =
    let fields = c.self.inside in
    let current = fields.current in
    let none : unstable_count (network_of fields.net.now) current.input.items current.state.items ≡ 0 = omega (arith, c.if-self-eq0.true, c.self.invariant.exact.unstable) in
    subst (λ (now : Replayer). (i : ℕ) → (i < length (network_of now.circuit)) × IsUnstable (network_of now.circuit) now.input now.state i → ⊥) c.self.view_is
    (none-unstable fields.net.now current.input.items current.state.items none)
