use Rattle.std.proofs.Common.{◌≡◌, drop, length}
use Rattle.hz_gmw.specs.CurrentState.{with_marks}
use Rattle.hz_gmw.proofs.variable_set.insert_each.Given as goal

-- the variables that are left make the whole
abbrev pub invariant-loop-var : goal.invariant-loop-var
invariant-loop-var l =
    (length l.set ≡ length l.fn.set) × (with_marks l.set (drop l.var-index l.list) ≡ with_marks l.fn.set l.list)
