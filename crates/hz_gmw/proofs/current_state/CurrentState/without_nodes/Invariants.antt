use Rattle.std.proofs.Common.{◌≡◌, ◌-◌, drop}
use Rattle.std.specs.Prelude.{sum_by}
use Rattle.hz_gmw.specs.CurrentState.{unstable_from}
use Rattle.hz_gmw.proofs.current_state.CurrentState.without_nodes.Given as goal

-- what is left less the rest is the whole difference
abbrev pub invariant-loop-var : goal.invariant-loop-var
invariant-loop-var l =
    l.left - sum_by (unstable_from l.net l.self.input.items l.self.state.items) (drop l.var-index l.list)
    ≡ l.number - sum_by (unstable_from l.net l.self.input.items l.self.state.items) l.list
