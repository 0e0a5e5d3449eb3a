-- All that the writer was given.
use Rattle.std.proofs.Common.{refl, rules}
use Rattle.hz_write.proofs.Writers.{writes_then, wrote_whole}
use Rattle.hz_pattern_text.proofs.print.write_patterns.Goals as goal

pub returns-clause-wrote : goal.returns-clause-wrote
returns-clause-wrote g c =
    let hold = rw c.held.ensures at c.write_hold.ensures.gave in
    let lines = writes_then hold c.write_all.ensures.gave refl in
    let wrote = wrote_whole _ _ _ _ _ _ _ _ c.new-writer.ensures.begins lines c.finish.ensures in
    search rules
