-- By the lemma of this crate.
use Rattle.hz_free.proofs.Laws.{changing}
use Rattle.hz_free.proofs.words_change.Goals as goal

pub returns : goal.returns
returns c = changing
