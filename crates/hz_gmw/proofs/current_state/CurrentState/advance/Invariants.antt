use Rattle.std.proofs.Common.{◌≡◌}
use Rattle.hz_gmw.specs.CurrentState.{IsExact}
use Rattle.hz_gmw.proofs.CurrentStateLemmas.{FlippedSoFar}
use Rattle.hz_gmw.proofs.current_state.CurrentState.advance.Given as goal

-- the variables so far changed
abbrev pub invariant-loop-var : goal.invariant-loop-var
invariant-loop-var l =
    IsExact l.net l.self
    × (l.self.input.items ≡ l.fn.self.input.items)
    × FlippedSoFar l.flips l.fn.self.state.items l.self.state.items l.var-index
