use Rattle.std.proofs.Common.{◌≡◌, ◌≢◌, ℕ, ◌<◌, ◌≤◌, length}
use Rattle.hz_core.specs.declared.tri.Tri.TheVariants.{Unknown}
use Rattle.hz_core.specs.Netlist.{primary_inputs}
use Rattle.hz_net.specs.Network.{value_at}
use Rattle.hz_pass.proofs.completed_start.least_open.Given as goal

-- the nodes so far are known
abbrev pub invariant-loop-node : goal.invariant-loop-node
invariant-loop-node l =
    (l.node-end ≡ length l.net.names) × (l.initial.node ≡ primary_inputs l.net)
    × ((other : ℕ) → primary_inputs l.net ≤ other → other < l.node → value_at l.values other ≢ Unknown)
