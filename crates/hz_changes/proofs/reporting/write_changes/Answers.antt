-- One change after the other.
use Rattle.std.proofs.Common.{◌≡◌, ◌∙◌, ◌+◌, ◌<◌, ℕ, Bool, List, [], ◌∷◌, ◌++◌, length, take, drop, get_or, is_some, true, refl, sym, ap, subst, arith, add-one}
use Rattle.hz_changes.proofs.Words.{length-take-le, get_or_from_slice_get, take-length, IsChange, Writes, NoneWaits, writes_then, Analysis, AreAnalyses, AreFirstAnalyses}
use Rattle.hz_changes.proofs.Words.{no-changes, all-analyses, analyses_text}
use Rattle.std.proofs.lemmas.List.{length-append, take-append-drop}
use Rattle.std.proofs.Math.Seq.{take-suc}
use Rattle.hz_write.proofs.Writers.{writes_nothing, writes_failed}
use Rattle.hz_changes.specs.Reports.{analysis_text}
use Rattle.hz_changes.proofs.Writable.{IsStopInside}
use Rattle.hz_changes.proofs.SequenceSteps.{goes-on, stop-inside}
use Rattle.hz_seq.proofs.Existence.{HasFindings, with-later}
use Rattle.hz_changes.proofs.ReportLines.{text-more, text-append}
use Rattle.hz_changes.proofs.reporting.write_changes.Goals as goal

pub loop-number-init : goal.loop-number-init
loop-number-init g c = (
  [],
  no-changes c.args.plate.now.netlist c.args.cap c.args.sequence.now c.requires.net c.requires.goes c.requires.start,
  refl,
  subst (IsStopInside c.args.plate.now.netlist) (sym c.requires.goes) tt,
  writes_nothing c.args.writer.now,
  λ waits. waits,
  refl,
)

pub write_next-requires-clause-change : goal.write_next-requires-clause-change
write_next-requires-clause-change g c =
    let few : c.loop-number.number < length c.args.script.now.changes = omega (arith, c.loop-number-test.true, c.changes-number-end.ensures.changes) in
    let is : get_or c.args.script.now.changes c.loop-number.number [] ≡ c.change.result.now =
    get_or_from_slice_get c.args.script.now.changes c.loop-number.number c.change.result.now [] c.change.ensures.change in
    rw c.loop-number.invariant.6 (subst (IsChange c.args.plate.now.netlist.inputs) is (c.requires.script.changes c.loop-number.number [] few)).below

pub loop-number-preserved : goal.loop-number-preserved
loop-number-preserved g c =
    let netlist = c.args.plate.now.netlist in
    let changes = c.args.script.now.changes in
    let number = c.loop-number.number in
    let change = c.change.result.now in
    let start = c.args.sequence.now.start in
    let so_far = c.loop-number.invariant in
    let made = rw so_far.6 at c.write_next.ensures.gave in
    let few : number < length changes = omega (arith, c.loop-number-test.true, c.changes-number-end.ensures.changes) in
    let long : length (take number changes) ≡ number = length-take-le number changes (omega (arith, few)) in
    let taken : take (number + 1) changes ≡ take number changes ++ change ∷ [] =
    rw add-one (take-suc changes number [] few)
    ∙ ap (λ (one : List (ℕ × Bool)). take number changes ++ one ∷ []) (get_or_from_slice_get changes number change [] c.change.ensures.change) in
    let place : number + 1 ≡ 1 + length (take number changes) = omega (arith, long) in
    let lines : Writes g.K.Sink.output g.K.Sink.faults (analysis_text netlist c.args.plate.now.show (1 + length (take number changes)) change made.0) c.loop-number.writer c.write_next.new.writer =
    subst (λ (n : ℕ). Writes g.K.Sink.output g.K.Sink.faults (analysis_text netlist c.args.plate.now.show n change made.0) c.loop-number.writer c.write_next.new.writer) place made.2 in
    subst (λ (list : List (List (ℕ × Bool))).
    (analyses : List Analysis)
    × AreFirstAnalyses netlist c.args.cap start list analyses c.write_next.new.sequence
    × (length analyses ≡ length list)
    × IsStopInside netlist c.write_next.new.sequence.stopped
    × Writes g.K.Sink.output g.K.Sink.faults (analyses_text netlist c.args.plate.now.show 1 list analyses) c.args.writer.now c.write_next.new.writer
    × (NoneWaits c.args.writer.now → NoneWaits c.write_next.new.writer)
    × (c.write_next.new.plate ≡ c.args.plate.now)) (sym taken) (
      so_far.0 ++ made.0 ∷ [],
      goes-on netlist c.args.cap start (take number changes) so_far.0 c.loop-number.sequence c.write_next.new.sequence c.requires.circuit so_far.1 change made.0 made.1,
      length-append so_far.0 (made.0 ∷ []) ∙ ap (λ (n : ℕ). n + 1) so_far.2 ∙ sym (length-append (take number changes) (change ∷ [])),
      stop-inside netlist c.args.cap start (take number changes) so_far.0 c.loop-number.sequence c.write_next.new.sequence c.requires.circuit so_far.1 change made.0 so_far.3 made.1,
      writes_then so_far.4 lines (text-more netlist c.args.plate.now.show 1 (take number changes) so_far.0 change made.0 so_far.2),
      λ _. c.write_next.ensures.none_waits,
      c.write_next.ensures.plate ∙ so_far.6,
    )

-- once the output failed, the lines of the changes that are left come to nothing, but they are known to be there
pub returns-then-has_failed-clause-gave : goal.returns-then-has_failed-clause-gave
returns-then-has_failed-clause-gave g c =
    let netlist = c.args.plate.now.netlist in
    let changes = c.args.script.now.changes in
    let number = c.loop-number.number in
    let start = c.args.sequence.now.start in
    let so_far = c.loop-number.invariant in
    let has : HasFindings netlist c.args.cap = λ begin input stable long.
    c.findings_exist.ensures netlist input begin c.args.cap c.requires.circuit (rw c.net.ensures at c.keeps_shape.ensures.whole) stable in
    let rest = with-later netlist c.args.cap c.requires.circuit has start (take number changes) (drop number changes) so_far.0 c.loop-number.sequence so_far.1 in
    let whole : take number changes ++ drop number changes ≡ changes = take-append-drop number changes in
    let failed : is_some c.loop-number.writer.fault ≡ true = sym c.has_failed.ensures ∙ c.if-has_failed.true in
    let lines : Writes g.K.Sink.output g.K.Sink.faults (analyses_text netlist c.args.plate.now.show 1 (take number changes ++ drop number changes) (so_far.0 ++ rest.0)) c.args.writer.now c.loop-number.writer =
    writes_then so_far.4 (writes_failed (analyses_text netlist c.args.plate.now.show (1 + length (take number changes)) (drop number changes) rest.0) failed)
    (text-append netlist c.args.plate.now.show 1 (take number changes) so_far.0 (drop number changes) rest.0 so_far.2) in (
      so_far.0 ++ rest.0,
      subst (λ (list : List (List (ℕ × Bool))). AreAnalyses netlist c.args.cap start list (so_far.0 ++ rest.0)) whole rest.1,
      subst (λ (list : List (List (ℕ × Bool))). Writes g.K.Sink.output g.K.Sink.faults (analyses_text netlist c.args.plate.now.show 1 list (so_far.0 ++ rest.0)) c.args.writer.now c.loop-number.writer) whole lines,
    )

pub returns-clause-gave : goal.returns-clause-gave
returns-clause-gave g c =
    let changes = c.args.script.now.changes in
    let number = c.loop-number.number in
    let so_far = c.loop-number.invariant in
    let end : number ≡ length changes = omega (arith, c.loop-number-test.false, c.loop-number.auto.number-end, c.changes-number-end.ensures.changes) in
    let whole : take number changes ≡ changes = ap (λ (n : ℕ). take n changes) end ∙ take-length changes in (
      so_far.0,
      all-analyses c.args.plate.now.netlist c.args.cap c.args.sequence.now.start changes so_far.0 c.loop-number.sequence
          (subst (λ (list : List (List (ℕ × Bool))). AreFirstAnalyses c.args.plate.now.netlist c.args.cap c.args.sequence.now.start list so_far.0 c.loop-number.sequence) whole so_far.1),
      subst (λ (list : List (List (ℕ × Bool))). Writes g.K.Sink.output g.K.Sink.faults (analyses_text c.args.plate.now.netlist c.args.plate.now.show 1 list so_far.0) c.args.writer.now c.loop-number.writer) whole so_far.4,
    )
