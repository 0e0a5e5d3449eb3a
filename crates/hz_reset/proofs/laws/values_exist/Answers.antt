use Rattle.hz_reset.proofs.Covers.{values-exist, values-are-one}
use Rattle.hz_reset.proofs.laws.values_exist.Goals as goal

pub returns-clause-some : goal.returns-clause-some
returns-clause-some c = values-exist c.each_settles.ensures.some c.each_settles.ensures.whole

pub returns-clause-one : goal.returns-clause-one
returns-clause-one c = values-are-one c.each_settles.ensures.one
