-- The path so far, and each variable on it leads on.
use Rattle.std.proofs.Common.{◌-◌, length}
use Rattle.hz_free.specs.Paths.{IsLink, IsPathSoFar}
use Rattle.hz_free.proofs.feedback.follow.Given as goal

abbrev pub invariant-loop-path : goal.invariant-loop-path
invariant-loop-path l = record {
  following : IsPathSoFar l.links l.start l.mark l.path.items l.var l.fn.marks l.marks;
  linked : IsLink l.links l.var;
}

abbrev pub decreases-loop-path : goal.decreases-loop-path
decreases-loop-path l = length l.links - length l.path.items
