use Rattle.std.proofs.Common.{◌≢◌, ℕ, ◌<◌, ◌≤◌, Some, None, slice_get}
use Rattle.hz_core.specs.Netlist.{primary_inputs}
use Rattle.hz_pass.proofs.cuts.lists_all_cuts.Given as goal

-- the cuts so far are listed
abbrev pub invariant-loop-cut : goal.invariant-loop-cut
invariant-loop-cut l = (cut : ℕ) → primary_inputs l.circuit ≤ cut → cut < l.cut → slice_get l.listed cut ≢ Some None
