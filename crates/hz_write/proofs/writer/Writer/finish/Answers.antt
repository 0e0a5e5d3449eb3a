-- A writer without a fault puts what waits.
use Rattle.hz_write.proofs.Writers.{finishes_waiting, finishes_failed}
use Rattle.hz_write.proofs.writer.Writer.finish.Goals as goal
use Rattle.hz_write.proofs.writer.Writer.finish.Goals.{in-Some, in-None}

pub returns : goal.returns
returns g c = elim c.match-fault.branch [
  | in-Some w ↦ rw w.result-is (finishes_failed _ _ c.args.self c.match-fault.out w.in-Some.fault w.in-Some.is w.out-is)
  | in-None w ↦ rw (w.result-is, w.out-is) (finishes_waiting _ _ c.args.self w.put_waiting.new.out w.put_waiting.result w.in-None.is w.put_waiting.ensures.wrote)
]
