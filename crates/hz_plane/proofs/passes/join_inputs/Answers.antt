use Rattle.std.proofs.Common.{arith}
use Rattle.hz_plane.proofs.passes.join_inputs.Goals as goal

pub returns-clause-planes : goal.returns-clause-planes
returns-clause-planes c = record { each = λ node below. c.loop-node.invariant.planes node (omega (arith, below, c.loop-node-test.false)) }
