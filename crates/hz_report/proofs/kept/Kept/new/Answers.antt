-- One line and one word more.
use Rattle.hz_report.proofs.KeptLemmas.{row-more, bit-more}
use Rattle.hz_report.proofs.kept.Kept.new.Goals as goal

pub loop-node-preserved : goal.loop-node-preserved
loop-node-preserved c = (
  row-more c.args.circuit.now c.loop-node.node c.name-name.result.now _ _ _ _ c.loop-node.invariant.0 c.name-name.ensures.name c.in_ok-add.ensures.text c.in_ok-add.ensures.begins,
  bit-more c.args.circuit.now c.loop-node.node c.name-name.result.now _ _ _ _ c.loop-node.invariant.1 c.name-name.ensures.name c.in_ok-add-2.ensures.text c.in_ok-add-2.ensures.begins,
)
