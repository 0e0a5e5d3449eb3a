use Rattle.std.proofs.Common.{◌+◌, ◌≤◌, length}
use Rattle.hz_plane.specs.Orders.{IsOrderSoFar}
use Rattle.hz_plane.proofs.order.place_found.Given as goal

abbrev pub invariant-loop-place : goal.invariant-loop-place
invariant-loop-place l = record {
  so_far : IsOrderSoFar l.net l.placed l.order.items;
  few : length l.order.items ≤ length l.fn.order.items + l.place;
}
