use Rattle.std.proofs.Common.{arith}
use Rattle.hz_pass.proofs.Places.{are-known}
use Rattle.hz_pass.proofs.algorithm_a.write_bits.Goals as goal

pub returns : goal.returns
returns c =
    are-known c.args.bits.now c.loop-i.values c.loop-i.invariant.0 (λ k few. c.loop-i.invariant.1 k (omega (arith, few)))
