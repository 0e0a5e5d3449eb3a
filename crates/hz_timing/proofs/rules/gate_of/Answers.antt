use Rattle.std.proofs.Common.{sym, arith}
use Rattle.hz_timing.proofs.AssumptionLaws.{gate-none}
use Rattle.hz_timing.proofs.rules.gate_of.Goals as goal

pub returns-then-len-variable : goal.returns-then-len-variable
returns-then-len-variable c = sym (gate-none c.args.net.now c.args.variable c.len.ensures.circuit (omega (arith, c.if-len-variable.true, c.len.ensures.len)))
