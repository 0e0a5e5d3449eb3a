-- One pin more.
use Rattle.std.proofs.Common.{◌+◌, ◌∙◌, length, arith}
use Rattle.hz_orders.proofs.Rows.{some-pins, if-ok, positions-more, table-first}
use Rattle.hz_orders.proofs.table.+all_positions.Goals as goal

pub number_of-requires : goal.number_of-requires
number_of-requires t c =
    let some = some-pins (length c.args.pins.now) c.if-is_empty.ensures in
    (table-first c.args.pins.now some c.requires).1

pub overflow_add-number_of : goal.overflow_add-number_of
overflow_add-number_of t c =
    let some = some-pins (length c.args.pins.now) c.if-is_empty.ensures in
    let first = table-first c.args.pins.now some c.requires in
    omega (arith, first.1, c.number_of.ensures)

pub returns : goal.returns
returns t c =
    let some = some-pins (length c.args.pins.now) c.if-is_empty.ensures in
    if-ok c.behind_numbers.result _ _ (λ positions is.
    is ∙ positions-more c.args.pins.now (c.number_of.result + 1) c.in_ok-tails.tails some (omega (arith, c.number_of.ensures)) c.in_ok-tails.ensures)
    c.behind_numbers.ensures
