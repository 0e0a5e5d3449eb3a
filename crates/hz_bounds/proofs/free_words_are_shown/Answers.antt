-- By the lemma of this crate.
use Rattle.hz_bounds.proofs.ShownWords.{shown}
use Rattle.hz_bounds.proofs.free_words_are_shown.Goals as goal

pub returns : goal.returns
returns c = shown
