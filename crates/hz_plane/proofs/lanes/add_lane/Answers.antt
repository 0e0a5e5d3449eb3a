use Rattle.hz_plane.proofs.LaneSets.{added-here, added-others}
use Rattle.hz_plane.proofs.lanes.add_lane.Goals as goal

pub returns-clause-here : goal.returns-clause-here
returns-clause-here c = added-here c.args.set.now c.args.lane c.requires c.told-set

pub returns-clause-others : goal.returns-clause-others
returns-clause-others c other inside differ = added-others c.args.set.now c.args.lane c.requires c.told-set other differ
