use Rattle.hz_reset.proofs.Forgotten.{begins_all_unknown, held_is_forgotten}
use Rattle.hz_reset.proofs.laws.held_is_forgotten.Goals as goal

pub returns-clause-all : goal.returns-clause-all
returns-clause-all c = begins_all_unknown

pub returns-clause-same : goal.returns-clause-same
returns-clause-same c = held_is_forgotten c.each_settles.ensures.some
