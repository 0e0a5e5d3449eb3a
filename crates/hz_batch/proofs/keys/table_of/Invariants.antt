use Rattle.hz_batch.proofs.KeyLemmas.{IsTableBelow}
use Rattle.hz_batch.proofs.keys.table_of.Given as goal

-- the values that the keys so far say
abbrev pub invariant-loop-key : goal.invariant-loop-key
invariant-loop-key l = IsTableBelow l.key l.table.items
