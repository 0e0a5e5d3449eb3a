-- One pin more.
use Rattle.std.proofs.Common.{length}
use Rattle.hz_orders.proofs.Rows.{some-pins, some-places, no-places}
use Rattle.hz_orders.proofs.table.+places.Goals as goal

pub returns-clause-some : goal.returns-clause-some
returns-clause-some t c =
    let some = some-pins (length c.args.pins.now) c.if-is_empty.ensures in
    some-places c.args.pins.now c.in-Some.rest c.times_one_more.result some c.in-Some.ensures.some.0 c.in-Some.ensures.some.1 c.times_one_more.ensures.some

pub returns-clause-none : goal.returns-clause-none
returns-clause-none t c =
    let some = some-pins (length c.args.pins.now) c.if-is_empty.ensures in
    λ none table. no-places c.args.pins.now c.in-Some.rest some c.in-Some.ensures.some.1 table (c.times_one_more.ensures.none none)
