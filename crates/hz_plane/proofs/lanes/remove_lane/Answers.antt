use Rattle.hz_plane.proofs.LaneSets.{removed-here, removed-others}
use Rattle.hz_plane.proofs.lanes.remove_lane.Goals as goal

pub returns-clause-here : goal.returns-clause-here
returns-clause-here c = removed-here c.args.set.now c.args.lane c.requires c.told-set

pub returns-clause-others : goal.returns-clause-others
returns-clause-others c other inside differ = removed-others c.args.set.now c.args.lane c.requires c.told-set other differ
