use Rattle.std.proofs.Common.{◌≡◌, Bool, List, length, drop}
use Rattle.hz_net.specs.Network.{network_of}
use Rattle.hz_gmw.specs.Watches.{RecordsStable}
use Rattle.hz_gmw.proofs.watch.Watch.note.Given as goal

-- the variables so far are noted: with those that are left it is all of them
abbrev pub invariant-loop-var : goal.invariant-loop-var
invariant-loop-var l =
    (l.self.changed ≡ l.fn.self.changed)
    × (length l.self.been_stable ≡ length l.fn.self.been_stable)
    × ((after : List Bool) → RecordsStable (network_of l.net) l.current.input.items l.current.state.items (drop l.var-index l.flips) l.self.been_stable after → RecordsStable (network_of l.net) l.current.input.items l.current.state.items l.flips l.fn.self.been_stable after)
