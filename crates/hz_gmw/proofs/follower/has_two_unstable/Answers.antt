use Rattle.hz_gmw.proofs.Counts.{two-unstable}
use Rattle.hz_gmw.proofs.follower.has_two_unstable.Goals as goal

pub returns : goal.returns
returns c = λ yes. two-unstable c.args.net.now c.args.input.now c.args.state.now _ c.in-Some.one c.in-Some-unstable_reader._other c.in-Some.ensures c.in-Some-unstable_reader.ensures
