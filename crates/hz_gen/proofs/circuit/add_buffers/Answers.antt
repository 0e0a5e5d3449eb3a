use Rattle.std.proofs.Common.{◌∙◌, arith}
use Rattle.hz_gen.proofs.Steps.{buffer-may, buffer-added}
use Rattle.hz_gen.proofs.circuit.add_buffers.Goals as goal

pub add_numbered-requires : goal.add_numbered-requires
add_numbered-requires c =
    buffer-may c.loop-number.circuit c.loop-number.number c.ring_gate.result _ (omega arith) c.loop-number.auto.number
    (omega (arith, c.loop-number-test.true, c.requires.number.most)) c.loop-number.invariant
    (c.ring_gate.ensures ∙ omega (arith, c.loop-number.auto.number))

pub loop-number-preserved : goal.loop-number-preserved
loop-number-preserved c =
    buffer-added c.loop-number.circuit c.add_numbered.new.circuit c.loop-number.number c.ring_gate.result
    c.loop-number.auto.number c.loop-number.invariant (c.ring_gate.ensures ∙ omega (arith, c.loop-number.auto.number))
    c.in_ok-add_numbered.ensures
