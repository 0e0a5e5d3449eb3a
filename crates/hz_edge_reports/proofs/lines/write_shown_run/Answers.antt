-- The run text, or nothing.
use Rattle.std.proofs.Common.{◌≡◌, eqb, length, true, false}
use Rattle.hz_edge_reports.proofs.Words.{writes_nothing, writes_same, change_of}
use Rattle.hz_run_text.specs.RunPrinted.{run_text_printed}
use Rattle.hz_edge_reports.specs.EdgeChanges.{run_of_change}
use Rattle.hz_edge_reports.proofs.OrderLines.{free-run, kept-run, hidden-run}
use Rattle.hz_edge_reports.proofs.lines.write_shown_run.Goals.{then-is_empty-via-then-is_empty, then-is_empty-via-else-is_empty+then-room}
use Rattle.hz_edge_reports.proofs.lines.write_shown_run.Goals as goal

pub returns-then-is_empty-clause-gave : goal.returns-then-is_empty-clause-gave
returns-then-is_empty-clause-gave g c =
    let room = c.args.room.now in
    let text = run_text_printed c.args.net.now (run_of_change c.args.net.now (change_of room)) in
    elim c.then-is_empty.branch [
      | then-is_empty-via-then-is_empty w ↦ (
          let none : true ≡ eqb (length room.used.items) 0 = rw c.as_slice.ensures.value at w.if-is_empty.ensures in
          writes_same c.write_run_text.ensures.gave (free-run room.used.items room.kept text none)
          )
      | then-is_empty-via-else-is_empty+then-room w ↦ writes_same c.write_run_text.ensures.gave (kept-run room.used.items room.kept text w.if-room.true)
    ]

pub returns-else-room-clause-gave : goal.returns-else-room-clause-gave
returns-else-room-clause-gave g c =
    let room = c.args.room.now in
    let text = run_text_printed c.args.net.now (run_of_change c.args.net.now (change_of room)) in
    let some : false ≡ eqb (length room.used.items) 0 = rw c.as_slice.ensures.value at c.if-is_empty.ensures in
    writes_same (writes_nothing c.args.writer.now) (hidden-run room.used.items room.kept text some c.if-room.false)
