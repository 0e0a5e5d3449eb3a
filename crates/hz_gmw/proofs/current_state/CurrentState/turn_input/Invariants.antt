use Rattle.std.proofs.Common.{◌≡◌, ◌<◌, ℕ}
use Rattle.hz_net.specs.Network.{bit_at}
use Rattle.hz_gmw.specs.CurrentState.{IsExact}
use Rattle.hz_gmw.proofs.current_state.CurrentState.turn_input.Given as goal

-- the inputs so far have their given values
abbrev pub invariant-loop-number : goal.invariant-loop-number
invariant-loop-number l =
    IsExact l.net l.self
    × (l.self.state.items ≡ l.fn.self.state.items)
    × ((i : ℕ) → i < l.number → bit_at l.self.input.items i ≡ bit_at l.input i)
