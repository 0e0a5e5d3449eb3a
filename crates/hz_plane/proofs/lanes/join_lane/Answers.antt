use Rattle.hz_plane.proofs.LaneSets.{joined-here, joined-others}
use Rattle.hz_plane.proofs.lanes.join_lane.Goals as goal

pub returns-clause-here : goal.returns-clause-here
returns-clause-here c = joined-here c.args.set.now c.args.lane c.requires.lane c.told-set c.args.is_in c.requires.out

pub returns-clause-others : goal.returns-clause-others
returns-clause-others c other inside differ = joined-others c.args.set.now c.args.lane c.requires.lane c.told-set c.args.is_in other differ
