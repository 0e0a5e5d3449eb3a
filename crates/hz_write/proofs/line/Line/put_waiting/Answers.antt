-- Nothing is put where nothing waits; else what waits is put as it is.
use Rattle.std.proofs.Common.{◌≡◌, []}
use Rattle.hz_write.proofs.Writing.{Puts-nil, Wrote-put}
use Rattle.hz_write.proofs.line.Line.put_waiting.Goals as goal

pub returns-then-len-eq0-clause-wrote : goal.returns-then-len-eq0-clause-wrote
returns-then-len-eq0-clause-wrote g c =
    let none : c.args.self.now ≡ [] = rw (← c.self.view_is, c.if-len-eq0.true) in
    rw none (Puts-nil c.args.out.now)

pub returns-clause-wrote : goal.returns-clause-wrote
returns-clause-wrote g c =
    rw (← c.self.view_is)
    (Wrote-put _ _ _ _ _ c.put.result
    c.put.ensures.whole c.put.ensures.failed c.put.ensures.memory c.put.ensures.counted c.put.ensures.quiet c.put.ensures.never_falls)
