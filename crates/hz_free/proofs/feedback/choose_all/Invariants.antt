-- The choices of the variables so far.
use Rattle.hz_net.specs.Network.{network_of}
use Rattle.hz_free.specs.Paths.{AreChoicesBelow}
use Rattle.hz_free.proofs.feedback.choose_all.Given as goal

abbrev pub invariant-loop-var : goal.invariant-loop-var
invariant-loop-var l = AreChoicesBelow (network_of l.net) l.var l.choices.items
