use Rattle.std.proofs.Common.{◌≡◌, Bool, Option, List, length}
use Rattle.hz_net.specs.Variables.{first_wire}
use Rattle.hz_pass.specs.Sweep.{IsSweptTo}
use Rattle.hz_pass.proofs.sweep.take_pins.Given as goal

-- the wires so far have their sources' values
abbrev pub invariant-loop-wire : goal.invariant-loop-wire
invariant-loop-wire l =
    (listed : List (Option Bool)) → length listed ≡ length l.net.names → IsSweptTo l.net listed l.gate (first_wire l.net l.gate) l.fn.values →
    IsSweptTo l.net listed l.gate l.wire l.values
