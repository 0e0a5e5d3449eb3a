-- Each node that is listed, with its bit.
use Rattle.hz_write.proofs.Writers.{writes_then, writes_same}
use Rattle.hz_text.specs.Printed.{assignment_text}
use Rattle.hz_text.proofs.PrintLemmas.{listed_some, listed_none}
use Rattle.hz_text.proofs.printing.write_listed.Goals as goal
use Rattle.hz_text.proofs.printing.write_listed.Goals.{in-Some, in_default}

pub loop-node-preserved : goal.loop-node-preserved
loop-node-preserved g c =
    let text_of = assignment_text c.args.circuit.now in
    let start = c.args.start.now in
    let node = c.loop-node.node in
    elim c.match-start-node.branch [
      | in-Some w ↦ rw w.writer-is
          (writes_then c.loop-node.invariant w.write_assignment.ensures
          (listed_some text_of start node w.in-Some.bit c.loop-node-test.true w.in-Some.is))
      | in_default w ↦ rw w.writer-is (writes_same c.loop-node.invariant (listed_none text_of start node c.loop-node-test.true w.in_default.is))
    ]
