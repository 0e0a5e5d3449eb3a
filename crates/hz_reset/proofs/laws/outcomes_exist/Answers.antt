use Rattle.hz_reset.proofs.Outcomes.{outcomes_exist, outcomes_exist_along}
use Rattle.hz_reset.proofs.laws.outcomes_exist.Goals as goal

pub returns-clause-some : goal.returns-clause-some
returns-clause-some c = outcomes_exist

pub returns-clause-along : goal.returns-clause-along
returns-clause-along c = outcomes_exist_along
