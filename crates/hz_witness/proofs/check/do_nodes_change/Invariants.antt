-- The variables so far have changed if they must.
use Rattle.std.proofs.Common.{ℕ, ◌<◌}
use Rattle.hz_net.specs.Network.{network_of}
use Rattle.hz_witness.specs.Witness.{DoesChange}
use Rattle.hz_witness.proofs.check.do_nodes_change.Given as goal

abbrev pub invariant-loop-var : goal.invariant-loop-var
invariant-loop-var l = (i : ℕ) → i < l.var → DoesChange (network_of l.net) l.a l.counts i
