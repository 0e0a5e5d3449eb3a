use Rattle.hz_plane.proofs.ByteLemmas.{joined-eight-here, joined-eight-others}
use Rattle.hz_plane.proofs.lanes.join_eight.Goals as goal

pub returns-clause-here : goal.returns-clause-here
returns-clause-here c lane same = joined-eight-here c.args.set.now c.args.eight c.args.byte lane c.requires.eight c.ranges.byte.fits c.told-set same (c.requires.out lane same)

pub returns-clause-others : goal.returns-clause-others
returns-clause-others c other inside apart = joined-eight-others c.args.set.now c.args.eight c.args.byte other c.requires.eight c.ranges.byte.fits c.told-set apart
