-- By the lemma of this crate.
use Rattle.hz_orders.proofs.Under.{ordered-covers}
use Rattle.hz_orders.proofs.laws.ordered_covers.Goals as goal

pub returns : goal.returns
returns c = ordered-covers
