use Rattle.std.proofs.Common.{◌≡◌, length}
use Rattle.hz_gmw.proofs.CurrentStateLemmas.{FlippedSoFar}
use Rattle.hz_split.proofs.flips.make_step.Given as goal

-- the variables so far changed
abbrev pub invariant-loop-var : goal.invariant-loop-var
invariant-loop-var l = (length l.state ≡ length l.fn.state) × FlippedSoFar l.flips l.fn.state l.state l.var-index
