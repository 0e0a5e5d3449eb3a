use Rattle.std.proofs.Common.{◌≡◌, Bool, Option, List, length}
use Rattle.hz_net.specs.Variables.{first_wire}
use Rattle.hz_pass.specs.Sweep.{IsSweptTo}
use Rattle.hz_pass.proofs.sweep.sweep.Given as goal

-- the nodes so far have their values
abbrev pub invariant-loop-node : goal.invariant-loop-node
invariant-loop-node l =
    (listed : List (Option Bool)) → length listed ≡ length l.net.names → IsSweptTo l.net listed 0 (first_wire l.net 0) l.fn.values →
    IsSweptTo l.net listed l.node (first_wire l.net l.node) l.values
