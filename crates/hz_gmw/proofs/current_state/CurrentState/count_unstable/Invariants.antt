use Rattle.std.proofs.Common.{◌≡◌, ◌≤◌, length}
use Rattle.std.specs.Prelude.{sum_by}
use Rattle.std.specs.List.{range_with_len}
use Rattle.hz_gmw.specs.CurrentState.{unstable_from}
use Rattle.hz_gmw.proofs.current_state.CurrentState.count_unstable.Given as goal

-- those that are unstable among the nodes so far and the wires from them
abbrev pub invariant-loop-node : goal.invariant-loop-node
invariant-loop-node l =
    (l.count ≡ sum_by (unstable_from l.net l.self.input.items l.self.state.items) (range_with_len 0 l.node))
    × (l.node ≤ length l.net.names)
