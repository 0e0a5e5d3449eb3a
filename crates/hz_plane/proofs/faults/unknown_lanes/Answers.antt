use Rattle.std.proofs.Common.{◌≡◌, ℕ, subst, arith, length}
use Rattle.hz_plane.specs.Faults.{AreUnknownLanes}
use Rattle.hz_plane.proofs.Bits.{plane-and, plane-or}
use Rattle.hz_plane.proofs.FaultNotes.{unknown-next, unknown-none}
use Rattle.hz_plane.proofs.faults.unknown_lanes.Goals as goal

pub loop-node-init : goal.loop-node-init
loop-node-init c = record { lanes = unknown-none c.args.values.now; plane = c.is_plane.ensures }

pub loop-node-preserved : goal.loop-node-preserved
loop-node-preserved c =
    let values = c.args.values.now in
    let node = c.loop-node.node in
    let is = c.requires.each node c.loop-node-test.true in
    record {
      lanes = unknown-next values node c.loop-node.unknown is c.loop-node.invariant.plane c.loop-node.invariant.lanes;
      plane = plane-or _ _ c.loop-node.invariant.plane (plane-and _ _ is.zero_is is.one_is);
    }

pub returns : goal.returns
returns c =
    let end : c.loop-node.node ≡ length c.args.values.now = omega (arith, c.loop-node-test.false, c.loop-node.auto.node-end) in
    subst (λ (n : ℕ). AreUnknownLanes c.args.values.now n c.loop-node.unknown) end c.loop-node.invariant.lanes
