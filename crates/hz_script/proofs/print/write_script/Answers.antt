-- All that the writer was given.
use Rattle.std.proofs.Common.{refl, rules}
use Rattle.hz_write.proofs.Writers.{writes_then, wrote_whole}
use Rattle.hz_script.proofs.print.write_script.Goals as goal

pub returns-clause-wrote : goal.returns-clause-wrote
returns-clause-wrote g c =
    let start = rw c.start.ensures.start at c.write_start.ensures.gave in
    let lines = writes_then start c.write_changes.ensures.gave refl in
    let wrote = wrote_whole _ _ _ _ _ _ _ _ c.new-writer.ensures.begins lines c.finish.ensures in
    search rules
