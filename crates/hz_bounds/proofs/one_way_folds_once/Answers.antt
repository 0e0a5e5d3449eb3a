-- By the lemma of this crate.
use Rattle.hz_bounds.proofs.OneWayFold.{one-way-fold}
use Rattle.hz_bounds.proofs.one_way_folds_once.Goals as goal

pub returns : goal.returns
returns c = one-way-fold
