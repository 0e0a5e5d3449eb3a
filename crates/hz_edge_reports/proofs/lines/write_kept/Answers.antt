-- Nothing is said where no order is used.
use Rattle.std.proofs.Common.{◌≡◌, eqb, length, true, false}
use Rattle.hz_write.proofs.Writers.{writes_nothing, writes_same}
use Rattle.hz_edge_reports.proofs.OrderLines.{no-orders, some-orders}
use Rattle.hz_edge_reports.proofs.lines.write_kept.Goals as goal

pub returns-then-is_empty-clause-gave : goal.returns-then-is_empty-clause-gave
returns-then-is_empty-clause-gave g c =
    let none : true ≡ eqb (length c.args.room.now.used.items) 0 = rw c.as_slice.ensures.value at c.if-is_empty.ensures in
    writes_same (writes_nothing c.args.writer.now) (no-orders c.args.room.now.used.items c.args.room.now.kept none)

pub returns-clause-gave : goal.returns-clause-gave
returns-clause-gave g c =
    let some : false ≡ eqb (length c.args.room.now.used.items) 0 = rw c.as_slice.ensures.value at c.if-is_empty.ensures in
    writes_same c.write_kept_line.ensures.gave (some-orders c.args.room.now.used.items c.args.room.now.kept some)
