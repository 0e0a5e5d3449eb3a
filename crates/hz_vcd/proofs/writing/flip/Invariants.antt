use Rattle.hz_gmw.proofs.CurrentStateLemmas.{FlippedSoFar}
use Rattle.hz_vcd.proofs.writing.flip.Given as goal

-- the variables so far changed
abbrev pub invariant-loop-var : goal.invariant-loop-var
invariant-loop-var l = FlippedSoFar l.flips l.fn.state l.state l.var-index
