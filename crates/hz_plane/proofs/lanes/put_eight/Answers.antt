use Rattle.hz_plane.proofs.ByteLemmas.{eight-here, eight-others}
use Rattle.hz_plane.proofs.lanes.put_eight.Goals as goal

pub returns-clause-here : goal.returns-clause-here
returns-clause-here c lane same = eight-here c.args.set.now c.args.eight c.args.byte lane c.requires c.ranges.byte.fits c.told-set same

pub returns-clause-others : goal.returns-clause-others
returns-clause-others c other inside apart = eight-others c.args.set.now c.args.eight c.args.byte other c.requires c.ranges.byte.fits c.told-set apart
