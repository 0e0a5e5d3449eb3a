use Rattle.hz_plane.proofs.PlaneLists.{pushed-planes, pushed-count}
use Rattle.hz_plane.proofs.planes.unknown_values.Goals as goal

pub loop-node-preserved : goal.loop-node-preserved
loop-node-preserved c = record {
  count = pushed-count _ _ _ _ c.in_ok-push.ensures.items c.loop-node.invariant.count;
  planes = pushed-planes _ _ _ c.in_ok-push.ensures.items c.loop-node.invariant.planes c.loop-node.invariant.unknown;
  unknown = c.loop-node.invariant.unknown;
}
