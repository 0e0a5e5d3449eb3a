-- All bits are the same.
use Rattle.std.proofs.Common.{arith}
use Rattle.hz_gmw.proofs.CurrentStateLemmas.{all-below}
use Rattle.hz_gmw.proofs.current_state.are_same.Goals as goal

pub returns : goal.returns
returns c = λ same. all-below c.args.other.now c.args.one.now c.loop-var.var (c.loop-var.invariant same) c.requires (omega (arith, c.requires))
