-- By the lemmas of this crate.
use Rattle.hz_orders.proofs.Folded.{inductive-under, inductive-without}
use Rattle.hz_orders.proofs.laws.inductive_under_orders.Goals as goal

pub returns-clause-any : goal.returns-clause-any
returns-clause-any c = inductive-under

pub returns-clause-none : goal.returns-clause-none
returns-clause-none c = inductive-without
