-- The best so far.
use Rattle.hz_orders.specs.Tables.{IsBest}
use Rattle.hz_orders.proofs.table.most_from.Given as goal

abbrev pub invariant-loop-later : goal.invariant-loop-later
invariant-loop-later l = IsBest l.table.gate.now l.table.positions.now l.most l.place l.later l.best
