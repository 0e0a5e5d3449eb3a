-- By the lemma of this crate.
use Rattle.hz_free.proofs.Laws.{covered}
use Rattle.hz_free.proofs.words_cover.Goals as goal

pub returns : goal.returns
returns c = covered
