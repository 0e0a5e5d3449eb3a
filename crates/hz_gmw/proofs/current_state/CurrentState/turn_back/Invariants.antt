use Rattle.std.proofs.Common.{◌≡◌, drop}
use Rattle.hz_gmw.specs.CurrentState.{IsExact, with_bits_of}
use Rattle.hz_gmw.proofs.current_state.CurrentState.turn_back.Given as goal

-- the variables that are left make the whole
abbrev pub invariant-loop-var : goal.invariant-loop-var
invariant-loop-var l =
    IsExact l.net l.self
    × (l.self.input.items ≡ l.fn.self.input.items)
    × (with_bits_of l.state l.self.state.items (drop l.var-index l.list) ≡ with_bits_of l.state l.fn.self.state.items l.list)
