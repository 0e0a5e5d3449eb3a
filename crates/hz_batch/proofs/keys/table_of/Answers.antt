use Rattle.hz_batch.proofs.KeyLemmas.{table-next}
use Rattle.hz_batch.proofs.keys.table_of.Goals as goal

pub loop-key-preserved : goal.loop-key-preserved
loop-key-preserved c =
    table-next c.loop-key.table.items c.push.new.self.items c.loop-key.key c.pair_of.result c.in_ok-push.ensures.items c.pair_of.ensures c.loop-key.invariant
