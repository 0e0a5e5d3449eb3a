-- All variables have their values.
use Rattle.std.proofs.Common.{arith}
use Rattle.hz_seq.proofs.Settling.{settled_at}
use Rattle.hz_edge_reports.proofs.settling.settle.Goals as goal

pub returns : goal.returns
returns c = settled_at c.args.values.now c.loop-var.state c.loop-var.var c.loop-var.invariant (omega (arith, c.loop-var.auto.state, c.requires.values)) (omega arith)
