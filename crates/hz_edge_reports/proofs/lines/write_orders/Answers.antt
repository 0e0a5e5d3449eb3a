-- Nothing is said where nothing is assumed.
use Rattle.std.proofs.Common.{length}
use Rattle.hz_edge_reports.proofs.Words.{Writes, writes_nothing, writes_same, change_of}
use Rattle.hz_edge_reports.specs.EdgeText.{orders_line}
use Rattle.hz_edge_reports.proofs.OrderLines.{none-assumed, some-assumed}
use Rattle.hz_edge_reports.proofs.lines.write_orders.Goals as goal

pub returns-then-is_empty-clause-gave : goal.returns-then-is_empty-clause-gave
returns-then-is_empty-clause-gave g c = writes_same (writes_nothing c.args.writer.now) (none-assumed c.args.assumptions.now (change_of c.args.room.now) c.if-is_empty.ensures)

pub returns-clause-gave : goal.returns-clause-gave
returns-clause-gave g c =
    let line : Writes g.K.Sink.output g.K.Sink.faults (orders_line (length c.args.room.now.used.items) c.args.room.now.idle) c.args.writer.now c.write_orders_line.new.writer =
    rw (c.as_slice.ensures.value) at c.write_orders_line.ensures.gave in
    writes_same line (some-assumed c.args.assumptions.now (change_of c.args.room.now) c.if-is_empty.ensures)
