use Rattle.std.proofs.Common.{refl}
use Rattle.hz_write.specs.Writes.{line_of}
use Rattle.hz_write.proofs.Writers.{writes_same}
use Rattle.hz_changes.specs.Splits.{split_line}
use Rattle.hz_changes.proofs.splitting.write_outcome.Goals as goal

pub returns-clause-gave : goal.returns-clause-gave
unfolding split_line line_of
returns-clause-gave g c = writes_same (rw c.outcome_word.ensures at c.line.ensures.gave) refl
