use Rattle.hz_batch.proofs.LineLemmas.{IsSetTo}
use Rattle.hz_batch.proofs.lanes.set_line.Given as goal

-- the outputs so far have their values
abbrev pub invariant-loop-place : goal.invariant-loop-place
invariant-loop-place l = IsSetTo l.net l.columns.firsts.items l.columns.seconds.items l.lane l.place l.line
