-- The variables so far have the root.
use Rattle.std.proofs.Common.{take}
use Rattle.hz_free.specs.Paths.{HaveValue}
use Rattle.hz_free.proofs.feedback.set_roots.Given as goal

abbrev pub invariant-loop-var : goal.invariant-loop-var
invariant-loop-var l = HaveValue (take l.var-index l.path) l.root l.fn.roots l.roots
