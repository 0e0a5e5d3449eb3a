-- What is counted so far, and what is left, is the whole.
use Rattle.std.proofs.Common.{◌≡◌, ℕ, ◌+◌, ◌∷◌, [], ◌<◌, length, drop, get_or}
use Rattle.hz_reach.specs.Spread.{changes_in}
use Rattle.hz_orders.proofs.check.count_step.Given as goal

abbrev pub invariant-loop-var : goal.invariant-loop-var
invariant-loop-var l =
    (i : ℕ) → i < length l.counts →
    get_or l.counts i 0 + changes_in (drop l.var-index l.flips ∷ []) i
    ≡ get_or l.fn.counts i 0 + changes_in (l.flips ∷ []) i
