-- The variables so far are told enough.
use Rattle.std.proofs.Common.{ℕ, ◌<◌}
use Rattle.hz_bounds.specs.Telling.{IsEnough}
use Rattle.hz_bounds.proofs.driven.are_inductive.Given as goal

abbrev pub invariant-loop-var : goal.invariant-loop-var
invariant-loop-var l = (i : ℕ) → i < l.var → IsEnough l.telling l.told i
