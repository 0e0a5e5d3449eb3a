-- Each node with its bit.
use Rattle.hz_write.proofs.Writers.{writes_then}
use Rattle.hz_text.specs.Printed.{assignment_text}
use Rattle.hz_text.proofs.PrintLemmas.{listed_bit}
use Rattle.hz_text.proofs.printing.write_all.Goals as goal

pub loop-node-preserved : goal.loop-node-preserved
loop-node-preserved g c =
    writes_then c.loop-node.invariant c.write_assignment.ensures
    (listed_bit (assignment_text c.args.circuit.now) c.args.bits.now c.loop-node.node c.loop-node-test.true)
