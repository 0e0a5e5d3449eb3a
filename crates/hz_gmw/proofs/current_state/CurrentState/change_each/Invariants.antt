use Rattle.std.proofs.Common.{◌≡◌, ◌<◌, ℕ}
use Rattle.hz_net.specs.Network.{bit_at}
use Rattle.hz_gmw.specs.CurrentState.{IsCounted}
use Rattle.hz_gmw.proofs.current_state.CurrentState.change_each.Given as goal

-- the variables so far have their given values
abbrev pub invariant-loop-var : goal.invariant-loop-var
invariant-loop-var l =
    IsCounted l.net l.self
    × (l.self.input.items ≡ l.fn.self.input.items)
    × ((i : ℕ) → i < l.var → bit_at l.self.state.items i ≡ bit_at l.state i)
