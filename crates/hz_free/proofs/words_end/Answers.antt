-- By the lemma of this crate.
use Rattle.hz_free.proofs.Laws.{ended}
use Rattle.hz_free.proofs.words_end.Goals as goal

pub returns : goal.returns
returns c = ended
