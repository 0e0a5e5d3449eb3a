-- By the lemma of this crate.
use Rattle.hz_bounds.proofs.Meeting.{exact-met}
use Rattle.hz_bounds.proofs.met_bounds_are_exact.Goals as goal

pub returns : goal.returns
returns c = exact-met
