-- One change after the other.
use Rattle.std.proofs.Common.{◌≡◌, ◌∙◌, ◌+◌, ◌<◌, ℕ, Bool, true, false, List, [], ◌∷◌, ◌++◌, length, take, drop, get_or, is_some, refl, sym, ap, subst, arith, add-one}
use Rattle.hz_edge_reports.proofs.Words.{length-take-le, get_or_from_slice_get, take-suc, take-length, IsStableStart, Writes, NoneWaits, writes_nothing, writes_then}
use Rattle.hz_edge_reports.proofs.Words.{writes_failed, EdgeAnalysis, AreEdgeAnalyses, edge_changes_text, IsChangeRoom}
use Rattle.std.proofs.lemmas.List.{take-append-drop}
use Rattle.hz_text.specs.Bits.{IsChange}
use Rattle.hz_write.specs.Writer.{has_failed}
use Rattle.hz_changes.proofs.Writable.{IsStopInside}
use Rattle.hz_edge_reports.specs.EdgeText.{edge_change_text}
use Rattle.hz_edge_reports.proofs.FirstEdges.{AreSoFar, none-yet, all-edges, goes-on, later-exist}
use Rattle.hz_edge_reports.proofs.ReportLines.{text-append, text-more}
use Rattle.hz_edge_reports.proofs.reporting.write_changes.Goals as goal

pub loop-place-init : goal.loop-place-init
loop-place-init g c = (
  [],
  none-yet c.args.making.now.net.now c.args.making.now.cap c.args.making.now.assumptions.now c.requires.making.circuit c.requires.making.assumptions c.args.room.now.start.items (has_failed c.args.writer.now) c.args.room.now c.requires.goes refl c.requires.start,
  writes_nothing c.args.writer.now,
  c.requires.none_waits,
  c.requires.room,
)

pub write_next-requires-clause-change : goal.write_next-requires-clause-change
write_next-requires-clause-change g c =
    let few : c.loop-place.place < length c.args.part.now.changes = omega (arith, c.loop-place-test.true, c.changes-place-end.ensures.changes) in
    let is : get_or c.args.part.now.changes c.loop-place.place [] ≡ c.change.result.now =
    get_or_from_slice_get c.args.part.now.changes c.loop-place.place c.change.result.now [] c.change.ensures.change in
    (subst (IsChange c.args.making.now.net.now.inputs) is (c.requires.part.changes c.loop-place.place [] few)).below

pub write_next-requires-clause-stable : goal.write_next-requires-clause-stable
write_next-requires-clause-stable g c =
    let fine : has_failed c.loop-place.writer ≡ false = sym c.has_failed.ensures ∙ c.if-has_failed.false in
    let so_far = c.loop-place.invariant.1 in
    λ goes. subst (IsStableStart c.args.making.now.net.now) (so_far.stands fine) (so_far.first.stable (so_far.stops fine ∙ goes))

pub write_next-requires-clause-inside : goal.write_next-requires-clause-inside
write_next-requires-clause-inside g c =
    let fine : has_failed c.loop-place.writer ≡ false = sym c.has_failed.ensures ∙ c.if-has_failed.false in
    let so_far = c.loop-place.invariant.1 in
    subst (IsStopInside c.args.making.now.net.now) (so_far.stops fine) so_far.first.inside

pub loop-place-preserved : goal.loop-place-preserved
loop-place-preserved g c =
    let making = c.args.making.now in
    let netlist = making.net.now in
    let cap = making.cap in
    let show = c.args.show in
    let assumptions = making.assumptions.now in
    let changes = c.args.part.now.changes in
    let place = c.loop-place.place in
    let number = c.args.number in
    let change = c.change.result.now in
    let start = c.args.room.now.start.items in
    let so_far = c.loop-place.invariant in
    let made = c.write_next.ensures.gave in
    let fine : has_failed c.loop-place.writer ≡ false = sym c.has_failed.ensures ∙ c.if-has_failed.false in
    let few : place < length changes = omega (arith, c.loop-place-test.true, c.changes-place-end.ensures.changes) in
    let long : length (take place changes) ≡ place = length-take-le place changes (omega (arith, few)) in
    let taken : take (place + 1) changes ≡ take place changes ++ change ∷ [] =
    rw add-one (take-suc changes place [] few)
    ∙ ap (λ (one : List (ℕ × Bool)). take place changes ++ one ∷ []) (get_or_from_slice_get changes place change [] c.change.ensures.change) in
    let at : number + place ≡ number + length (take place changes) = omega (arith, long) in
    let lines : Writes g.K.Sink.output g.K.Sink.faults (edge_change_text netlist show assumptions (number + length (take place changes)) change made.0) c.loop-place.writer c.write_next.new.writer =
    subst (λ (n : ℕ). Writes g.K.Sink.output g.K.Sink.faults (edge_change_text netlist show assumptions n change made.0) c.loop-place.writer c.write_next.new.writer) at made.2 in
    let before : AreSoFar netlist cap assumptions start (take place changes) so_far.0 false c.loop-place.room =
    subst (λ (failed : Bool). AreSoFar netlist cap assumptions start (take place changes) so_far.0 failed c.loop-place.room) fine so_far.1 in
    subst (λ (list : List (List (ℕ × Bool))).
    (analyses : List EdgeAnalysis)
    × AreSoFar netlist cap assumptions start list analyses (has_failed c.write_next.new.writer) c.write_next.new.room
    × Writes g.K.Sink.output g.K.Sink.faults (edge_changes_text netlist show assumptions number list analyses) c.args.writer.now c.write_next.new.writer
    × NoneWaits c.write_next.new.writer
    × IsChangeRoom netlist c.write_next.new.room) (sym taken) (
      so_far.0 ++ made.0 ∷ [],
      goes-on making start (take place changes) so_far.0 c.loop-place.room c.write_next.new.room c.requires.making before change made.0 (has_failed c.write_next.new.writer) made.1,
      writes_then so_far.2 lines (text-more netlist show assumptions number (take place changes) so_far.0 change made.0 so_far.1.first.long),
      c.write_next.ensures.none_waits,
      c.write_next.ensures.room,
    )

-- once the output failed, or memory ran out, the lines of the changes that are left come to nothing, but they are known to be there
pub returns-then-has_failed-clause-gave : goal.returns-then-has_failed-clause-gave
returns-then-has_failed-clause-gave g c =
    let making = c.args.making.now in
    let netlist = making.net.now in
    let cap = making.cap in
    let show = c.args.show in
    let assumptions = making.assumptions.now in
    let changes = c.args.part.now.changes in
    let place = c.loop-place.place in
    let number = c.args.number in
    let start = c.args.room.now.start.items in
    let so_far = c.loop-place.invariant in
    let first = so_far.1.first in
    let rest = later-exist c.changes_exist.ensures netlist cap assumptions c.requires.making.circuit c.requires.making.whole c.requires.making.assumptions c.requires.making.cap.0 c.requires.making.cap.1
    (drop place changes) so_far.1.at so_far.1.stopped first.stable in
    let whole : take place changes ++ drop place changes ≡ changes = take-append-drop place changes in
    let failed : is_some c.loop-place.writer.fault ≡ true = sym c.has_failed.ensures ∙ c.if-has_failed.true in
    let lines : Writes g.K.Sink.output g.K.Sink.faults (edge_changes_text netlist show assumptions number (take place changes ++ drop place changes) (so_far.0 ++ rest.0)) c.args.writer.now c.loop-place.writer =
    writes_then so_far.2 (writes_failed (edge_changes_text netlist show assumptions (number + length (take place changes)) (drop place changes) rest.0) failed)
    (text-append netlist show assumptions number (take place changes) so_far.0 (drop place changes) rest.0 first.long) in (
      so_far.0 ++ rest.0,
      subst (λ (list : List (List (ℕ × Bool))). AreEdgeAnalyses netlist cap assumptions start list (so_far.0 ++ rest.0)) whole (first.with_later (drop place changes) rest.0 rest.1),
      subst (λ (list : List (List (ℕ × Bool))). Writes g.K.Sink.output g.K.Sink.faults (edge_changes_text netlist show assumptions number list (so_far.0 ++ rest.0)) c.args.writer.now c.loop-place.writer) whole lines,
    )

pub returns-clause-gave : goal.returns-clause-gave
returns-clause-gave g c =
    let making = c.args.making.now in
    let netlist = making.net.now in
    let cap = making.cap in
    let assumptions = making.assumptions.now in
    let changes = c.args.part.now.changes in
    let place = c.loop-place.place in
    let so_far = c.loop-place.invariant in
    let end : place ≡ length changes = omega (arith, c.loop-place-test.false, c.loop-place.auto.place-end, c.changes-place-end.ensures.changes) in
    let whole : take place changes ≡ changes = ap (λ (n : ℕ). take n changes) end ∙ take-length changes in (
      so_far.0,
      subst (λ (list : List (List (ℕ × Bool))). AreEdgeAnalyses netlist cap assumptions c.args.room.now.start.items list so_far.0) whole
          (all-edges netlist cap assumptions c.requires.making.circuit c.requires.making.assumptions c.args.room.now.start.items (take place changes) so_far.0 (has_failed c.loop-place.writer) c.loop-place.room so_far.1),
      subst (λ (list : List (List (ℕ × Bool))). Writes g.K.Sink.output g.K.Sink.faults (edge_changes_text netlist c.args.show assumptions c.args.number list so_far.0) c.args.writer.now c.loop-place.writer) whole so_far.2,
    )
