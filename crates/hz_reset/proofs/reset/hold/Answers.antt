use Rattle.std.proofs.Common.{None, length, arith}
use Rattle.std.specs.List.{slice_index_or}
use Rattle.hz_net.specs.TernaryStarts.{held_value}
use Rattle.hz_reset.proofs.Places.{are-values}
use Rattle.hz_reset.proofs.reset.hold.Goals as goal

pub returns : goal.returns
returns c =
    are-values (λ i. held_value (slice_index_or c.args.held.now i None)) c.loop-i.values (length c.args.values.now) c.loop-i.invariant.0
    (λ k few. c.loop-i.invariant.1 k (omega (arith, few, c.loop-i.invariant.0)))
