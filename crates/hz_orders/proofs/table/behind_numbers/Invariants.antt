-- The lists stand behind each number so far.
use Rattle.std.proofs.Common.{◌≡◌}
use Rattle.hz_orders.specs.Positions.{behind_numbers}
use Rattle.hz_orders.proofs.table.behind_numbers.Given as goal

abbrev pub invariant-loop-times : goal.invariant-loop-times
invariant-loop-times l = l.positions ≡ behind_numbers l.times l.tails
