-- The variables so far are told enough.
use Rattle.std.proofs.Common.{ℕ, ◌<◌}
use Rattle.hz_orders.specs.Telling.{IsToldEnough}
use Rattle.hz_orders.proofs.driven.are_inductive.Given as goal

abbrev pub invariant-loop-var : goal.invariant-loop-var
invariant-loop-var l = (i : ℕ) → i < l.var → IsToldEnough l.telling l.told i
