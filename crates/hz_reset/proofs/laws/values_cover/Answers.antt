use Rattle.hz_reset.proofs.Covers.{cover-from-unknown}
use Rattle.hz_reset.proofs.laws.values_cover.Goals as goal

pub returns : goal.returns
returns c = cover-from-unknown c.ternary_starts_cover.ensures.settled c.each_settles.ensures.whole
