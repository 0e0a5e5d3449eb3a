use Rattle.std.proofs.Common.{rules, arith}
use Rattle.hz_states.proofs.PackingLemmas.{digit-small, gathered-all, gathered-more, gathered-none, gathered-room}
use Rattle.hz_states.proofs.packing.byte_of.Goals as goal

pub loop-bit-init : goal.loop-bit-init
loop-bit-init c = search (rules, gathered-none)

pub overflow_mul-byte : goal.overflow_mul-byte
overflow_mul-byte c = omega (arith, gathered-room _ _ _ _ _ c.loop-bit.invariant.2 c.in-Some.ensures.steps c.requires)

pub overflow_add-byte : goal.overflow_add-byte
overflow_add-byte c =
    omega (arith, gathered-room _ _ _ _ _ c.loop-bit.invariant.2 c.in-Some.ensures.steps c.requires, c.digit.ensures, digit-small c.in-Some.bit.now)

pub loop-bit-preserved : goal.loop-bit-preserved
loop-bit-preserved c = search (rules, gathered-more)

pub returns : goal.returns
returns c = gathered-all _ _ _ c.loop-bit.invariant.2 c.in-None.ensures.steps.0
