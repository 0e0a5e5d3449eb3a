use Rattle.std.proofs.Common.{◌≡◌, take}
use Rattle.hz_gen.specs.BuiltDemo.{with_wired_gate}
use Rattle.hz_gen.proofs.gate.add_connected.Given as goal

-- the gate has its first pins
abbrev pub invariant-loop-source : goal.invariant-loop-source
invariant-loop-source l = l.circuit ≡ with_wired_gate l.fn.circuit l.name l.fn.kind (take l.source-index l.sources)
