-- By the lemma of this crate.
use Rattle.hz_bounds.proofs.TwoWayFold.{two-way-fold}
use Rattle.hz_bounds.proofs.two_ways_fold_twice.Goals as goal

pub returns : goal.returns
returns c = two-way-fold
