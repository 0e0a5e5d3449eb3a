-- The variables so far have their values.
use Rattle.std.proofs.Common.{◌≡◌, ℕ, ◌<◌}
use Rattle.hz_edge_reports.proofs.Words.{tri_of, bit_at, value_at}
use Rattle.hz_edge_reports.proofs.settling.settle.Given as goal

abbrev pub invariant-loop-var : goal.invariant-loop-var
invariant-loop-var l = (i : ℕ) → i < l.var → value_at l.values i ≡ tri_of (bit_at l.state i)
