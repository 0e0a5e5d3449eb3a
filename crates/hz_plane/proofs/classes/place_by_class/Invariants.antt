use Rattle.std.proofs.Common.{◌+◌, ◌<◌, ◌≤◌, length}
use Rattle.hz_plane.specs.Orders.{IsOrderSoFar}
use Rattle.hz_plane.proofs.classes.place_by_class.Given as goal

abbrev pub invariant-loop-turn : goal.invariant-loop-turn
invariant-loop-turn l = record {
  class : l.class < 24;
  so_far : IsOrderSoFar l.net l.placed l.order.items;
  few : length l.order.items ≤ length l.fn.order.items + l._turn;
}
