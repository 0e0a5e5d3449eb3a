use Rattle.std.proofs.Common.{◌≡◌, length}
use Rattle.hz_gmw.specs.VariableSets.{HoldsSet}
use Rattle.hz_gmw.proofs.variable_set.VariableSet.clear.Given as goal

-- what is left is a set
abbrev pub invariant-loop-var : goal.invariant-loop-var
invariant-loop-var l = HoldsSet l.self-inside × (length l.self-inside.marks.items ≡ length l.fn.self)

-- the members that are left
abbrev pub decreases-loop-var : goal.decreases-loop-var
decreases-loop-var l = length l.self-inside.members.items
