-- By the lemmas of this crate.
use Rattle.hz_orders.proofs.Folded.{fold-bound, count-bound}
use Rattle.hz_orders.proofs.laws.gate_bounds.Goals as goal

pub returns-clause-fold : goal.returns-clause-fold
returns-clause-fold c = fold-bound

pub returns-clause-count : goal.returns-clause-count
returns-clause-count c = count-bound
