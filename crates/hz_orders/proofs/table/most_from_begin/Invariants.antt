-- It is told from a place on, and what was found last is told there.
use Rattle.std.proofs.Common.{◌≡◌, ◌-◌, ◌≤◌, length, slice_index_or}
use Rattle.hz_orders.specs.Tables.{AreMostBehind}
use Rattle.hz_orders.proofs.table.most_from_begin.Given as goal

abbrev pub invariant-loop-done : goal.invariant-loop-done
invariant-loop-done l =
    AreMostBehind l.table.gate.now l.table.positions.now l.most (length l.table.positions.now - l.done)
    × (1 ≤ l.done → slice_index_or l.most (length l.table.positions.now - l.done) 0 ≡ l.from_here)
