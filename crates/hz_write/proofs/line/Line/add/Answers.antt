-- Each turn puts what waits and a prefix of what is left.
use Rattle.std.proofs.Common.{◌≡◌, ◌++◌}
use Rattle.std.proofs.lemmas.List.{take-append-drop}
use Rattle.hz_write.proofs.Writing.{IsBuffered-start, IsBuffered-put, Stops-put, WroteBuffered-exit}
use Rattle.hz_write.proofs.line.Line.add.Goals as goal

pub loop-rest-init : goal.loop-rest-init
loop-rest-init g c = IsBuffered-start _ _

pub returns-in_err-put_waiting-clause-added : goal.returns-in_err-put_waiting-clause-added
returns-in_err-put_waiting-clause-added g c =
    let rest : c.loop-rest.rest.now ≡ c.split_at.result.0.now ++ c.split_at.result.1.now =
    rw (c.split_at.ensures.front, c.split_at.ensures.back, take-append-drop) in
    let before = rw rest at c.loop-rest.invariant in
    let stopped = rw c.push.ensures at c.in_err-put_waiting.ensures.wrote in
    WroteBuffered-exit _ c.from_residual.result c.from_residual.ensures.1
    (Stops-put c.loop-rest.self c.split_at.result.0.now c.split_at.result.1.now before stopped)

pub loop-rest-preserved : goal.loop-rest-preserved
loop-rest-preserved g c =
    let rest : c.loop-rest.rest.now ≡ c.split_at.result.0.now ++ c.split_at.result.1.now =
    rw (c.split_at.ensures.front, c.split_at.ensures.back, take-append-drop) in
    let before = rw rest at c.loop-rest.invariant in
    let put = rw c.push.ensures at c.in_ok-put_waiting.ensures.wrote in
    rw c.put_waiting.ensures.emptied
    (IsBuffered-put c.loop-rest.self c.split_at.result.0.now c.split_at.result.1.now before put)
