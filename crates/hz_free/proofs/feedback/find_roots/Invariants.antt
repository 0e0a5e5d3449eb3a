-- The variables so far have a root.
use Rattle.hz_free.specs.Paths.{AreRooted}
use Rattle.hz_free.proofs.feedback.find_roots.Given as goal

abbrev pub invariant-loop-var : goal.invariant-loop-var
invariant-loop-var l = AreRooted l.choices l.choosers l.roots l.var
