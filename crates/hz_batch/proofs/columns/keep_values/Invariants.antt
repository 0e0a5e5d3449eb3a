use Rattle.hz_batch.proofs.ColumnLemmas.{AreColumnsBelow}
use Rattle.hz_batch.proofs.columns.keep_values.Given as goal

-- the columns of the outputs so far
abbrev pub invariant-loop-place : goal.invariant-loop-place
invariant-loop-place l = AreColumnsBelow l.net l.planes.stage l.planes.lanes l.net.outputs l.place l.columns
