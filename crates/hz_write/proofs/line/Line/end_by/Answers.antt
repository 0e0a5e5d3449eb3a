-- Where nothing waits the last bytes are put as they are; else they are added first.
use Rattle.std.proofs.Common.{◌≡◌, []}
use Rattle.hz_write.proofs.Writing.{Wrote-ended, Wrote-put}
use Rattle.hz_write.proofs.line.Line.end_by.Goals as goal

pub returns-clause-wrote : goal.returns-clause-wrote
returns-clause-wrote g c =
    Wrote-ended _ _ _ _ _ _ _ c.put_waiting.result c.in_ok-add.ensures.added c.put_waiting.ensures.wrote

pub returns-then-last-le-BUFFER_SIZE-clause-wrote : goal.returns-then-last-le-BUFFER_SIZE-clause-wrote
returns-then-last-le-BUFFER_SIZE-clause-wrote g c =
    let none : c.args.self.now ≡ [] = rw (← c.self.view_is, c.if-self-eq0.true) in
    rw none
    (Wrote-put _ _ _ _ _ c.put.result
    c.put.ensures.whole c.put.ensures.failed c.put.ensures.memory c.put.ensures.counted c.put.ensures.quiet c.put.ensures.never_falls)
