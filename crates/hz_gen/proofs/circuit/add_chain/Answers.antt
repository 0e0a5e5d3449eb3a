use Rattle.std.proofs.Common.{◌≡◌, ℕ, ◌+◌, ◌-◌, ◌<◌, ◌≤◌, arith}
use Rattle.hz_core.specs.Netlist.{Netlist}
use Rattle.hz_options.specs.Numbers.{IsDemoNumber}
use Rattle.hz_gen.specs.BuiltDemo.{chain_netlist, last_gate}
use Rattle.hz_gen.proofs.Steps.{IsNext, first-may, second-may, third-may, third-added}
use Rattle.hz_gen.proofs.circuit.add_chain.Goals as goal

-- the next multiplexer is added
next :
    {n number before : ℕ} {circuit : Netlist} → IsDemoNumber n → 1 ≤ number → number < n + 1 →
    circuit ≡ chain_netlist n (number - 1) → before ≡ last_gate n (number - 1) → IsNext n number before circuit
next is some within so_far last =
    record {
      least = is.least;
      most = is.most;
      some = some;
      within = omega (arith, within);
      so_far = so_far;
      last = last;
    }

pub add_numbered-requires : goal.add_numbered-requires
add_numbered-requires c =
    first-may _ _ _ _
    (next c.requires.number c.loop-number.auto.number c.loop-number-test.true c.loop-number.invariant.so_far
    c.loop-number.invariant.last)

pub add_numbered-requires-in-loop-number : goal.add_numbered-requires-in-loop-number
add_numbered-requires-in-loop-number c =
    second-may _ _ _ _ _ _
    (next c.requires.number c.loop-number.auto.number c.loop-number-test.true c.loop-number.invariant.so_far
    c.loop-number.invariant.last)
    (omega arith) c.in_ok-add_numbered.ensures

pub add_numbered-requires-in-loop-number-2 : goal.add_numbered-requires-in-loop-number-2
add_numbered-requires-in-loop-number-2 c =
    third-may _ _ _ _ _ _ _ _
    (next c.requires.number c.loop-number.auto.number c.loop-number-test.true c.loop-number.invariant.so_far
    c.loop-number.invariant.last)
    c.nodes-first.ensures.nodes c.in_ok-add_numbered.ensures c.in_ok-add_numbered-2.ensures

pub loop-number-preserved : goal.loop-number-preserved
loop-number-preserved c =
    let added =
    third-added _ _ _ _ _ _ _ _
    (next c.requires.number c.loop-number.auto.number c.loop-number-test.true c.loop-number.invariant.so_far
    c.loop-number.invariant.last)
    c.nodes-first.ensures.nodes c.in_ok-add_numbered.ensures c.in_ok-add_numbered-2.ensures c.in_ok-add_numbered-3.ensures in
    record { so_far = added.0; last = added.1 }
