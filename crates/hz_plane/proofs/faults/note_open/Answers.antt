use Rattle.std.proofs.Common.{◌+◌, sym, subst}
use Rattle.hz_plane.specs.Faults.{IsOpenFault}
use Rattle.hz_plane.proofs.FaultNotes.{unknown-by, known-by, open-next}
use Rattle.hz_plane.proofs.faults.note_open.Goals as goal

pub loop-node-preserved : goal.loop-node-preserved
loop-node-preserved c =
    let values = c.args.values.now in
    let node = c.loop-node.node in
    record {
      lanes = λ lane inside. subst (IsOpenFault values lane (node + 1)) (sym (c.note_new-noted.ensures.lanes lane inside))
          (open-next values lane node _ _ (unknown-by values lane node inside (c.requires.planes.each node c.loop-node-test.true)) (known-by values lane node inside (c.requires.planes.each node c.loop-node-test.true)) (c.loop-node.invariant.lanes lane inside));
      noted = λ lane inside none. c.note_new-noted.ensures.noted lane inside none;
    }
