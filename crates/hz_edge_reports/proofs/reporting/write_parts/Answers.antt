-- One part after the other.
use Rattle.std.proofs.Common.{◌≡◌, ◌∙◌, ◌+◌, ◌<◌, ◌≤◌, ℕ, Bool, List, [], ◌∷◌, ◌++◌, length, take, drop, sum_by, is_some, true, sym, ap, subst, arith, add-one}
use Rattle.hz_edge_reports.proofs.Words.{get_or_from_slice_get, take-suc, take-length, ScriptOf, AreAcceptedStarts, Writes, NoneWaits, writes_nothing, writes_then, writes_failed}
use Rattle.hz_edge_reports.proofs.Words.{start_line, EdgeAnalysis, ArePartAnalyses, edge_changes_text, parts_text, IsChangeRoom}
use Rattle.std.proofs.lemmas.List.{take-append-drop}
use Rattle.std.proofs.lemmas.List.Sums.{sum_by_more_le, sum_by_push}
use Rattle.hz_net.specs.Starts.{IsAcceptedStart}
use Rattle.hz_script.specs.ScriptText.{IsScriptFor}
use Rattle.hz_edge_reports.proofs.PartEdges.{accepted-append, accepted-at, accepted-drop, accepted-long, part-edges-append, part-edges-exist, parts-long}
use Rattle.hz_edge_reports.proofs.ReportLines.{changes_of, parts-append, parts-more}
use Rattle.hz_edge_reports.proofs.reporting.write_parts.Goals as goal

pub loop-place-init : goal.loop-place-init
loop-place-init g c = ([], [], tt, tt, writes_nothing c.args.writer.now, c.requires.none_waits, c.requires.room, omega arith)

pub write_part-requires-clause-part : goal.write_part-requires-clause-part
write_part-requires-clause-part g c =
    let parts = c.args.script.now.parts in
    let place = c.loop-place.place in
    let few : place < length parts = omega (arith, c.loop-place-test.true, c.parts-place-end.ensures) in
    subst (IsScriptFor c.args.making.now.net.now) (get_or_from_slice_get parts place c.part-part.result.now c.part-part.result.now c.part-part.ensures) (c.requires.script.parts place c.part-part.result.now few)

pub write_part-requires-clause-start : goal.write_part-requires-clause-start
write_part-requires-clause-start g c =
    let parts = c.args.script.now.parts in
    let place = c.loop-place.place in
    let part = c.part-part.result.now in
    let few : place < length parts = omega (arith, c.loop-place-test.true, c.parts-place-end.ensures) in
    subst (λ (one : ScriptOf). (start : List Bool) × IsAcceptedStart c.args.making.now.net.now one.start start) (get_or_from_slice_get parts place part part c.part-part.ensures)
    (accepted-at c.args.making.now.net.now parts c.requires.starts.0 place part c.requires.starts.1 few)

pub write_part-requires-clause-number : goal.write_part-requires-clause-number
write_part-requires-clause-number g c =
    let parts = c.args.script.now.parts in
    let place = c.loop-place.place in
    let part = c.part-part.result.now in
    let few : place < length parts = omega (arith, c.loop-place-test.true, c.parts-place-end.ensures) in
    let all : sum_by changes_of parts ≤ 10000 = c.requires.script.few in
    let some : sum_by changes_of (take place parts) + length part.changes ≤ sum_by changes_of parts =
    subst (λ (one : ScriptOf). sum_by changes_of (take place parts) + length one.changes ≤ sum_by changes_of parts) (get_or_from_slice_get parts place part part c.part-part.ensures)
    (sum_by_more_le changes_of parts place part few) in
    let number : c.loop-place.number ≡ 1 + sum_by changes_of (take place parts) = c.loop-place.invariant.7 in
    omega (arith, all, some, number)

pub loop-place-preserved : goal.loop-place-preserved
loop-place-preserved g c =
    let making = c.args.making.now in
    let netlist = making.net.now in
    let cap = making.cap in
    let show = c.args.show in
    let assumptions = making.assumptions.now in
    let parts = c.args.script.now.parts in
    let place = c.loop-place.place in
    let part = c.part-part.result.now in
    let so_far = c.loop-place.invariant in
    let made = c.write_part.ensures.gave in
    let few : place < length parts = omega (arith, c.loop-place-test.true, c.parts-place-end.ensures) in
    let taken : take (place + 1) parts ≡ take place parts ++ part ∷ [] =
    rw add-one (take-suc parts place part few)
    ∙ ap (λ (one : ScriptOf). take place parts ++ one ∷ []) (get_or_from_slice_get parts place part part c.part-part.ensures) in
    let number : c.loop-place.number ≡ 1 + sum_by changes_of (take place parts) = so_far.7 in
    let lines : Writes g.K.Sink.output g.K.Sink.faults (start_line netlist made.0 ++ edge_changes_text netlist show assumptions (1 + sum_by changes_of (take place parts)) part.changes made.1) c.loop-place.writer c.write_part.new.writer =
    subst (λ (n : ℕ). Writes g.K.Sink.output g.K.Sink.faults (start_line netlist made.0 ++ edge_changes_text netlist show assumptions n part.changes made.1) c.loop-place.writer c.write_part.new.writer) number made.4 in
    let longer : c.loop-place.number + length part.changes ≡ 1 + sum_by changes_of (take place parts ++ part ∷ []) = omega (arith, number, sum_by_push changes_of (take place parts) part) in
    subst (λ (list : List ScriptOf).
    (starts : List (List Bool)) × (analyses : List (List EdgeAnalysis))
    × AreAcceptedStarts netlist list starts
    × ArePartAnalyses netlist cap assumptions starts list analyses
    × Writes g.K.Sink.output g.K.Sink.faults (parts_text netlist show assumptions 1 starts list analyses) c.args.writer.now c.write_part.new.writer
    × NoneWaits c.write_part.new.writer
    × IsChangeRoom netlist c.write_part.new.room
    × (c.loop-place.number + c.changes.result ≡ 1 + sum_by changes_of list)) (sym taken) (
      so_far.0 ++ made.0 ∷ [],
      so_far.1 ++ made.1 ∷ [],
      accepted-append netlist (take place parts) so_far.0 (part ∷ []) (made.0 ∷ []) so_far.2 (made.2, tt),
      part-edges-append netlist cap assumptions so_far.0 (take place parts) so_far.1 (made.0 ∷ []) (part ∷ []) (made.1 ∷ []) so_far.3 (made.3, tt),
      writes_then so_far.4 lines
          (parts-more netlist show assumptions 1 so_far.0 (take place parts) so_far.1 made.0 part made.1 (accepted-long netlist (take place parts) so_far.0 so_far.2) (parts-long netlist cap assumptions so_far.0 (take place parts) so_far.1 so_far.3)),
      c.write_part.ensures.none_waits,
      c.write_part.ensures.room,
      ap (λ (n : ℕ). c.loop-place.number + n) c.changes.ensures.changes ∙ longer,
    )

-- once the output failed, or memory ran out, the lines of the parts that are left come to nothing, but they are known to be there
pub returns-then-has_failed-clause-gave : goal.returns-then-has_failed-clause-gave
returns-then-has_failed-clause-gave g c =
    let making = c.args.making.now in
    let netlist = making.net.now in
    let cap = making.cap in
    let show = c.args.show in
    let assumptions = making.assumptions.now in
    let parts = c.args.script.now.parts in
    let place = c.loop-place.place in
    let so_far = c.loop-place.invariant in
    let known = c.requires.starts in
    let later = drop place known.0 in
    let accepted = accepted-drop netlist place parts known.0 known.1 in
    let rest = part-edges-exist c.changes_exist.ensures netlist cap assumptions c.requires.making.circuit c.requires.making.whole c.requires.making.assumptions c.requires.making.cap.0 c.requires.making.cap.1 (drop place parts) later accepted in
    let whole : take place parts ++ drop place parts ≡ parts = take-append-drop place parts in
    let failed : is_some c.loop-place.writer.fault ≡ true = sym c.has_failed.ensures ∙ c.if-has_failed.true in
    let lines : Writes g.K.Sink.output g.K.Sink.faults (parts_text netlist show assumptions 1 (so_far.0 ++ later) (take place parts ++ drop place parts) (so_far.1 ++ rest.0)) c.args.writer.now c.loop-place.writer =
    writes_then so_far.4 (writes_failed (parts_text netlist show assumptions (1 + sum_by changes_of (take place parts)) later (drop place parts) rest.0) failed)
    (parts-append netlist show assumptions 1 so_far.0 (take place parts) so_far.1 later (drop place parts) rest.0 (accepted-long netlist (take place parts) so_far.0 so_far.2) (parts-long netlist cap assumptions so_far.0 (take place parts) so_far.1 so_far.3)) in
    subst (λ (list : List ScriptOf).
    (starts : List (List Bool)) × (analyses : List (List EdgeAnalysis))
    × AreAcceptedStarts netlist list starts
    × ArePartAnalyses netlist cap assumptions starts list analyses
    × Writes g.K.Sink.output g.K.Sink.faults (parts_text netlist show assumptions 1 starts list analyses) c.args.writer.now c.loop-place.writer) whole (
      so_far.0 ++ later,
      so_far.1 ++ rest.0,
      accepted-append netlist (take place parts) so_far.0 (drop place parts) later so_far.2 accepted,
      part-edges-append netlist cap assumptions so_far.0 (take place parts) so_far.1 later (drop place parts) rest.0 so_far.3 rest.1,
      lines,
    )

pub returns-clause-gave : goal.returns-clause-gave
returns-clause-gave g c =
    let making = c.args.making.now in
    let netlist = making.net.now in
    let parts = c.args.script.now.parts in
    let place = c.loop-place.place in
    let so_far = c.loop-place.invariant in
    let end : place ≡ length parts = omega (arith, c.loop-place-test.false, c.loop-place.auto.place-end, c.parts-place-end.ensures) in
    let whole : take place parts ≡ parts = ap (λ (n : ℕ). take n parts) end ∙ take-length parts in
    subst (λ (list : List ScriptOf).
    (starts : List (List Bool)) × (analyses : List (List EdgeAnalysis))
    × AreAcceptedStarts netlist list starts
    × ArePartAnalyses netlist making.cap making.assumptions.now starts list analyses
    × Writes g.K.Sink.output g.K.Sink.faults (parts_text netlist c.args.show making.assumptions.now 1 starts list analyses) c.args.writer.now c.loop-place.writer) whole
    (so_far.0, so_far.1, so_far.2, so_far.3, so_far.4)
