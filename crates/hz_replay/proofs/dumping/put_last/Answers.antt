-- All that the writer was given.
use Rattle.std.proofs.Common.{rules}
use Rattle.hz_write.proofs.Writers.{wrote_whole}
use Rattle.hz_replay.proofs.dumping.put_last.Goals as goal

pub returns-clause-wrote : goal.returns-clause-wrote
returns-clause-wrote g c =
    let wrote = wrote_whole _ _ _ _ _ _ _ _ c.new-writer.ensures.begins c.write_last.ensures.gave c.finish.ensures in
    search rules
