-- By the lemma of this crate.
use Rattle.hz_free.proofs.Laws.{begun}
use Rattle.hz_free.proofs.words_begin.Goals as goal

pub returns : goal.returns
returns c = begun
