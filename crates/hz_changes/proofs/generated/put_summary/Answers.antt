-- All that the writer was given.
use Rattle.std.proofs.Common.{rules}
use Rattle.hz_write.proofs.Writers.{wrote_whole}
use Rattle.hz_changes.proofs.generated.put_summary.Goals as goal

pub returns : goal.returns
returns g c =
    let wrote = wrote_whole _ _ _ _ _ _ _ _ c.new-writer.ensures.begins c.write_summary.ensures.gave c.finish.ensures in
    search rules
