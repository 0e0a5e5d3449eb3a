-- The values of the words so far.
use Rattle.std.proofs.Common.{◌≡◌, map, take}
use Rattle.hz_orders.specs.Outcomes.{told_value}
use Rattle.hz_orders.proofs.ends.values_of.Given as goal

abbrev pub invariant-loop-word : goal.invariant-loop-word
invariant-loop-word l = l.values.items ≡ map told_value (take l.word-index l.told)
