use Rattle.std.proofs.Common.{◌≡◌, length}
use Rattle.hz_pass.proofs.ListedLoop.{ListedSoFar}
use Rattle.hz_pass.proofs.forcing.set_listed.Given as goal

-- the nodes so far have their listed values
abbrev pub invariant-loop-node : goal.invariant-loop-node
invariant-loop-node l = (l.node-end ≡ length l.listed) × ListedSoFar l.listed l.values l.waiting.items l.node
