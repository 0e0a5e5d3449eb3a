use Rattle.std.proofs.Common.{◌≡◌, drop, length}
use Rattle.hz_net.specs.Network.{network_of}
use Rattle.hz_split.specs.Walks.{with_looks}
use Rattle.hz_split.proofs.walk.look_at_each.Given as goal

-- the variables that are left make the whole
abbrev pub invariant-loop-var : goal.invariant-loop-var
invariant-loop-var l =
    (length l.unstable ≡ length l.fn.unstable)
    × (with_looks (network_of l.net) l.input l.state l.unstable (drop l.var-index l.list) ≡ with_looks (network_of l.net) l.input l.state l.fn.unstable l.list)
