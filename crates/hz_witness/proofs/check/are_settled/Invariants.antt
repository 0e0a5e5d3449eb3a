-- The variables so far have settled if they must.
use Rattle.std.proofs.Common.{ℕ, ◌<◌}
use Rattle.hz_net.specs.Network.{network_of}
use Rattle.hz_witness.specs.Witness.{IsSettledAt}
use Rattle.hz_witness.proofs.check.are_settled.Given as goal

abbrev pub invariant-loop-var : goal.invariant-loop-var
invariant-loop-var l = (i : ℕ) → i < l.var → IsSettledAt (network_of l.net) l.input l.b l.state i
