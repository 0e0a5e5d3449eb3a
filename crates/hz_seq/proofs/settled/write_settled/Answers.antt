-- All variables have their values, if none is X.
use Rattle.std.proofs.Common.{arith}
use Rattle.hz_seq.proofs.Settling.{settled_at}
use Rattle.hz_seq.proofs.settled.write_settled.Goals as goal

pub returns : goal.returns
returns c = λ known. settled_at c.args.values.now c.loop-var.state c.loop-var.var (c.loop-var.invariant known) (omega (arith, c.loop-var.auto.state, c.requires)) (omega arith)
