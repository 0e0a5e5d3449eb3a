-- One position more.
use Rattle.std.proofs.Common.{arith}
use Rattle.hz_orders.proofs.Rows.{row-length}
use Rattle.hz_orders.proofs.table.add_places.Goals as goal

pub place_at-place-requires-clause-position : goal.place_at-place-requires-clause-position
place_at-place-requires-clause-position c =
    let inside = c.loop-number-test.true in
    let end = c.len-number-end.ensures in
    row-length c.args.gate.now.pins.now c.args.positions.now c.position.result.now c.loop-number.number c.requires.table c.requires.positions (omega (arith, inside, end)) c.position.ensures
