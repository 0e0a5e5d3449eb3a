use Rattle.std.proofs.Common.{◌≡◌, drop}
use Rattle.hz_gmw.specs.CurrentState.{with_bits_of}
use Rattle.hz_gmw.proofs.replay.take_over.Given as goal

-- the variables that are left make the whole
abbrev pub invariant-loop-var : goal.invariant-loop-var
invariant-loop-var l = with_bits_of l.state l.marked (drop l.var-index l.list) ≡ with_bits_of l.state l.fn.marked l.list
