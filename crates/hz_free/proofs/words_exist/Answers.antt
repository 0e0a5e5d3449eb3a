-- By the lemma of this crate.
use Rattle.hz_free.proofs.WordsExist.{words}
use Rattle.hz_free.proofs.words_exist.Goals as goal

pub returns : goal.returns
returns c = words
