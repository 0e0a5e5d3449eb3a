-- The line feed is added, and then what waits is put.
use Rattle.hz_write.proofs.Writing.{Wrote-ended}
use Rattle.hz_write.proofs.line.Line.end.Goals as goal
use Rattle.hz_write.proofs.line.Line.end.Goals.{then-room-gt0, else-room-gt0+in_ok-add}

pub returns-clause-wrote : goal.returns-clause-wrote
returns-clause-wrote g c =
    let put = c.put_waiting.ensures.wrote in
    elim c.if-room-gt0.branch [
      | then-room-gt0 w ↦ rw (w.self-is, w.push.ensures, w.out-is) at put
      | else-room-gt0+in_ok-add w ↦ Wrote-ended _ _ _ _ _ _ _ c.put_waiting.result w.in_ok-add.ensures.added (rw (w.self-is, w.out-is) at put)
    ]
