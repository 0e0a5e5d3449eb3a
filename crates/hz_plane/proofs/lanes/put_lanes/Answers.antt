use Rattle.std.proofs.Common.{◌∙◌, sym}
use Rattle.hz_plane.proofs.LaneSets.{put-here, put-others, out-here, out-others}
use Rattle.hz_plane.proofs.lanes.put_lanes.Goals as goal

pub returns-then-are_in-clause-here : goal.returns-then-are_in-clause-here
returns-then-are_in-clause-here c lane inside is = put-here c.args.set.now c.args.lanes.now lane inside c.is_plane.ensures c.is_plane-2.ensures is ∙ sym c.if-are_in.true

pub returns-then-are_in-clause-others : goal.returns-then-are_in-clause-others
returns-then-are_in-clause-others c other inside out = put-others c.args.set.now c.args.lanes.now other inside c.is_plane.ensures c.is_plane-2.ensures out

pub returns-else-are_in-clause-here : goal.returns-else-are_in-clause-here
returns-else-are_in-clause-here c lane inside is = out-here c.args.set.now c.args.lanes.now lane inside c.is_plane.ensures c.is_plane-2.ensures is ∙ sym c.if-are_in.false

pub returns-else-are_in-clause-others : goal.returns-else-are_in-clause-others
returns-else-are_in-clause-others c other inside out = out-others c.args.set.now c.args.lanes.now other inside c.is_plane.ensures c.is_plane-2.ensures out
