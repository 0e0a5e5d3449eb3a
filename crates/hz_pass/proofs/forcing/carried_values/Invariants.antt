use Rattle.std.proofs.Common.{◌+◌, length}
use Rattle.hz_core.specs.Ternary.{unknown_count}
use Rattle.hz_pass.specs.Forcing.{ForcedSoFar, only_waiting}
use Rattle.hz_pass.proofs.forcing.carried_values.Given as goal

-- what is set is forced, and all but the nodes that wait are delivered
abbrev pub invariant-loop-node : goal.invariant-loop-node
invariant-loop-node l = ForcedSoFar l.net l.listed l.values.items (only_waiting l.waiting.items)

-- a node waits once, when it is no X any more
abbrev pub decreases-loop-node : goal.decreases-loop-node
decreases-loop-node l = unknown_count l.values.items + length l.waiting.items
