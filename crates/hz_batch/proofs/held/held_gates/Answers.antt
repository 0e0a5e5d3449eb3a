-- One node more.
use Rattle.hz_batch.proofs.HeldLemmas.{listed-next}
use Rattle.hz_batch.proofs.held.held_gates.Goals as goal

pub loop-node-preserved : goal.loop-node-preserved
loop-node-preserved c = listed-next c.args.held.now c.loop-node.node _ c.loop-node.gates.items c.push_held.new.gates.items c.loop-node-test.true c.loop-node.invariant c.in_ok-push_held.ensures
