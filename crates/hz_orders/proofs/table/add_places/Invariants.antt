-- It is told of the positions so far.
use Rattle.std.proofs.Common.{◌≡◌, length}
use Rattle.hz_orders.proofs.Places.{ArePlacesBefore}
use Rattle.hz_orders.proofs.table.add_places.Given as goal

abbrev pub invariant-loop-number : goal.invariant-loop-number
invariant-loop-number l = (length l.letters ≡ length l.initial.letters) × ArePlacesBefore l.gate l.positions l.number l.places.items
