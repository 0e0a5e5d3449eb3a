-- The variables so far have the numbers of their roots.
use Rattle.hz_free.specs.Paths.{HaveNumbers}
use Rattle.hz_free.proofs.feedback.write_cores.Given as goal

abbrev pub invariant-loop-var : goal.invariant-loop-var
invariant-loop-var l = HaveNumbers l.numbers l.fn.roots l.roots l.var
