-- The variables so far have the word.
use Rattle.std.proofs.Common.{◌≡◌, ℕ, ◌<◌}
use Rattle.hz_bounds.proofs.Words.{bit_at, told_at, known_or}
use Rattle.hz_bounds.specs.Telling.{known_at}
use Rattle.hz_bounds.proofs.telling.fill.Given as goal

abbrev pub invariant-loop-var : goal.invariant-loop-var
invariant-loop-var l = (i : ℕ) → i < l.var → told_at l.told i ≡ known_or (known_at l.telling i) (record { first = bit_at l.telling.start.now i; changes = l.changes })
