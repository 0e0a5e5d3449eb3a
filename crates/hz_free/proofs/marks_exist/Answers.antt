-- By the lemma of this crate.
use Rattle.hz_free.proofs.WordsExist.{marks}
use Rattle.hz_free.proofs.marks_exist.Goals as goal

pub returns : goal.returns
returns c = marks
