-- The start of a part, and its changes. If memory runs out, the start is the one that is known.
use Rattle.std.proofs.Common.{◌∙◌, ◌++◌, Bool, List, refl, sym, subst, arith}
use Rattle.hz_edge_reports.proofs.Words.{IsStableStart, Writes, writes_then, writes_failed, start_line, AreEdgeAnalyses, edge_changes_text}
use Rattle.hz_changes.proofs.AcceptedStarts.{ListsInputs-front, start-accepted}
use Rattle.hz_edge_reports.proofs.FirstEdges.{edges-exist}
use Rattle.hz_edge_reports.proofs.PartEdges.{accepted-stable}
use Rattle.hz_edge_reports.proofs.reporting.write_part.Goals as goal

pub complete-requires-clause-inputs : goal.complete-requires-clause-inputs
complete-requires-clause-inputs g c =
    rw c.start.ensures.start (ListsInputs-front c.args.making.now.net.now c.args.part.now.start (omega (arith, c.requires.making.circuit.nodes, c.requires.part.nodes)) c.requires.part.inputs)

pub begin-requires-clause-start : goal.begin-requires-clause-start
begin-requires-clause-start g c = rw c.as_slice.ensures.value c.in-Ok.ensures.start.completed.long

pub write_start-requires : goal.write_start-requires
write_start-requires g c = rw c.as_slice-in-Ok.ensures.value c.in-Ok.ensures.start.completed.long

pub write_changes-requires-clause-start : goal.write_changes-requires-clause-start
write_changes-requires-clause-start g c =
    let netlist = c.args.making.now.net.now in
    let accepted = start-accepted netlist c.start.result.now c.args.part.now.start c.in-Ok.start.items c.in-Ok.start.items c.start.ensures.start refl c.in-Ok.ensures.start in
    subst (IsStableStart netlist) (sym (c.begin.ensures.start ∙ c.as_slice.ensures.value)) (accepted-stable netlist c.args.part.now c.in-Ok.start.items accepted)

pub returns-in-Ok-clause-gave : goal.returns-in-Ok-clause-gave
returns-in-Ok-clause-gave g c =
    let making = c.args.making.now in
    let netlist = making.net.now in
    let part = c.args.part.now in
    let begin = c.in-Ok.start.items in
    let accepted = start-accepted netlist c.start.result.now part.start begin begin c.start.ensures.start refl c.in-Ok.ensures.start in
    let made = c.write_changes.ensures.gave in
    let same = c.begin.ensures.start ∙ c.as_slice.ensures.value in
    let line : Writes g.K.Sink.output g.K.Sink.faults (start_line netlist begin) c.args.writer.now c.write_start.new.writer = rw c.as_slice-in-Ok.ensures.value at c.write_start.ensures.gave in (
      begin,
      made.0,
      accepted,
      subst (λ (from : List Bool). AreEdgeAnalyses netlist making.cap making.assumptions.now from part.changes made.0) same made.1,
      writes_then line made.2 refl,
    )

pub returns-in-Err-clause-gave : goal.returns-in-Err-clause-gave
returns-in-Err-clause-gave g c =
    let making = c.args.making.now in
    let netlist = making.net.now in
    let part = c.args.part.now in
    let begin = c.requires.start in
    let made = edges-exist c.changes_exist.ensures netlist making.cap making.assumptions.now c.requires.making.circuit c.requires.making.whole c.requires.making.assumptions c.requires.making.cap.0 c.requires.making.cap.1
    part.changes begin.0 (accepted-stable netlist part begin.0 begin.1) in (
      begin.0,
      made.0,
      begin.1,
      made.1,
      writes_then c.give_up.ensures.gave
          (writes_failed (start_line netlist begin.0 ++ edge_changes_text netlist c.args.show making.assumptions.now c.args.number part.changes made.0) c.give_up.ensures.failed) refl,
    )
