-- By the lemma of this crate.
use Rattle.hz_orders.proofs.Under.{prefix-keeps}
use Rattle.hz_orders.proofs.laws.prefixes_keep.Goals as goal

pub returns : goal.returns
returns c = prefix-keeps
