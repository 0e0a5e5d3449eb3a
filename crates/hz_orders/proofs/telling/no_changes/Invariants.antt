-- The words so far are counted.
use Rattle.std.proofs.Common.{◌≡◌, length}
use Rattle.hz_free.specs.Inductive.{AreCounted}
use Rattle.hz_orders.proofs.telling.no_changes.Given as goal

abbrev pub invariant-loop-var : goal.invariant-loop-var
invariant-loop-var l = (length l.words.items ≡ l.var) × AreCounted l.telling.cap l.words.items
