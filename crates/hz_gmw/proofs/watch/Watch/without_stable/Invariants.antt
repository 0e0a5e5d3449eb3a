use Rattle.std.proofs.Common.{◌≡◌, ◌-◌, drop}
use Rattle.std.specs.Prelude.{count_by}
use Rattle.hz_net.specs.Network.{network_of, bit_at}
use Rattle.hz_gmw.specs.Watches.{unstable_unchanged}
use Rattle.hz_gmw.proofs.watch.Watch.without_stable.Given as goal

-- what is left less the rest is the whole difference
abbrev pub invariant-loop-node : goal.invariant-loop-node
invariant-loop-node l =
    l.left - count_by (unstable_unchanged (network_of l.net) l.current.input.items l.current.state.items (bit_at l.self.changed)) (drop l.node-index l.list)
    ≡ l.number - count_by (unstable_unchanged (network_of l.net) l.current.input.items l.current.state.items (bit_at l.self.changed)) l.list
