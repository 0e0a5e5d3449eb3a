-- One change after the other, up to the first that leaves a variable unsettled.
use Rattle.std.proofs.Common.{◌≡◌, ◌∙◌, ◌+◌, ◌<◌, ℕ, suc, Bool, true, false, List, [], ◌∷◌, ◌++◌, length, take, drop, get_or, codes, None, refl, sym, ap, subst, arith, add-one}
use Rattle.hz_changes.proofs.Words.{length-take-le, get_or_from_slice_get, take-length, IsChange, line_of, finding_of, IsLeftBy, Analysis, Found, AreFirstAnalyses, no-changes}
use Rattle.hz_changes.proofs.Words.{leaves_unsettled, SplitsChange, SplitsChanges, Ends-put, Ends-more}
use Rattle.std.proofs.lemmas.List.{length-append, take-append-drop}
use Rattle.std.proofs.Math.Seq.{take-suc, drop-cons}
use Rattle.hz_refusal.specs.declared.status.Status.TheVariants as status
use Rattle.hz_changes.proofs.SequenceSteps.{goes-on}
use Rattle.hz_changes.proofs.SplitRuns.{can-be-split}
use Rattle.hz_changes.proofs.SplitLines.{AreQuiet, ends-unsettled, ends-settled, quiet-more, goes-on-settled}
use Rattle.hz_changes.proofs.splitting.split_changes.Goals as goal

pub loop-number-init : goal.loop-number-init
loop-number-init g c =
    ([], no-changes c.args.net.now c.args.cap c.args.sequence.now c.requires.net c.requires.goes c.requires.start, refl, tt, c.requires.goes, refl)

pub next-requires-clause-inputs : goal.next-requires-clause-inputs
next-requires-clause-inputs g c =
    let so_far = c.loop-number.invariant in
    let few : c.loop-number.number < length c.args.script.now.changes = omega (arith, c.loop-number-test.true, c.changes-number-end.ensures.changes) in
    let is : get_or c.args.script.now.changes c.loop-number.number [] ≡ c.change.result.now =
    get_or_from_slice_get c.args.script.now.changes c.loop-number.number c.change.result.now [] c.change.ensures.change in
    rw so_far.1.same (subst (IsChange c.args.net.now.inputs) is (c.requires.script.changes c.loop-number.number [] few)).below

pub split_change-requires : goal.split_change-requires
split_change-requires g c =
    let so_far = c.loop-number.invariant in
    let was = c.loop-number.sequence in
    can-be-split _ was.desk.netlist c.args.cap was.start c.change.result.now so_far.1.same c.requires.circuit (so_far.1.stable so_far.4) c.in-Ok.ensures.finding.1
    (sym c.is_unsettled.ensures ∙ c.if-is_unsettled.true)

pub loop-number-preserved : goal.loop-number-preserved
loop-number-preserved g c =
    let netlist = c.args.net.now in
    let changes = c.args.script.now.changes in
    let number = c.loop-number.number in
    let change = c.change.result.now in
    let start = c.args.sequence.now.start in
    let finding = finding_of c.in-Ok.finding.now in
    let was = c.loop-number.sequence in
    let now = c.next.follows.lender-at-none in
    let so_far = c.loop-number.invariant in
    let left : IsLeftBy finding was now = rw c.in-Ok.is at c.next.follows.holds-at-none in
    let settles : leaves_unsettled finding ≡ false = sym c.is_unsettled.ensures ∙ c.if-is_unsettled.false in
    let few : number < length changes = omega (arith, c.loop-number-test.true, c.changes-number-end.ensures.changes) in
    let taken : take (number + 1) changes ≡ take number changes ++ change ∷ [] =
    rw add-one (take-suc changes number [] few)
    ∙ ap (λ (one : List (ℕ × Bool)). take number changes ++ one ∷ []) (get_or_from_slice_get changes number change [] c.change.ensures.change) in
    subst (λ (list : List (List (ℕ × Bool))).
    (analyses : List Analysis)
    × AreFirstAnalyses netlist c.args.cap start list analyses now
    × (length analyses ≡ length list)
    × AreQuiet analyses
    × (now.stopped ≡ None)
    × (c.loop-number.out ≡ c.args.out.now)) (sym taken) (
      so_far.0 ++ Found finding ∷ [],
      goes-on netlist c.args.cap start (take number changes) so_far.0 was now c.requires.circuit so_far.1 change (Found finding) (c.in-Ok.ensures.finding.0, c.in-Ok.ensures.finding.1, left),
      length-append so_far.0 (Found finding ∷ []) ∙ ap (λ (n : ℕ). n + 1) so_far.2 ∙ sym (length-append (take number changes) (change ∷ [])),
      quiet-more finding so_far.0 so_far.3 settles,
      goes-on-settled finding was now settles left,
      so_far.5,
    )

pub returns-then-is_unsettled : goal.returns-then-is_unsettled
returns-then-is_unsettled g c =
    let netlist = c.args.net.now in
    let changes = c.args.script.now.changes in
    let number = c.loop-number.number in
    let change = c.change.result.now in
    let start = c.args.sequence.now.start in
    let finding = finding_of c.in-Ok.finding.now in
    let so_far = c.loop-number.invariant in
    let unsettled : leaves_unsettled finding ≡ true = sym c.is_unsettled.ensures ∙ c.if-is_unsettled.true in
    let few : number < length changes = omega (arith, c.loop-number-test.true, c.changes-number-end.ensures.changes) in
    let is : get_or changes number [] ≡ change = get_or_from_slice_get changes number change [] c.change.ensures.change in
    let whole : take number changes ++ change ∷ drop (suc number) changes ≡ changes =
    ap (λ (rest : List (List (ℕ × Bool))). take number changes ++ rest) (sym (drop-cons changes number [] few ∙ ap (λ (one : List (ℕ × Bool)). one ∷ drop (suc number) changes) is))
    ∙ take-append-drop number changes in
    let place : number + 1 ≡ length (take number changes) + 1 = omega (arith, length-take-le number changes (omega (arith, few))) in
    Ends-more g.K.Sink.output g.K.Sink.faults (SplitsChange netlist (number + 1) finding) (SplitsChanges c.args.cap netlist start changes) c.args.out.now c.split_change.new.out c.split_change.result
    (λ own text says.
    subst (λ (list : List (List (ℕ × Bool))). SplitsChanges c.args.cap netlist start list own text) whole
    (ends-unsettled netlist c.args.cap start (take number changes) so_far.0 c.loop-number.sequence so_far.1 so_far.2 so_far.3 (drop (suc number) changes) change finding so_far.4 c.in-Ok.ensures.finding.1 unsettled own text
    (subst (λ (n : ℕ). SplitsChange netlist n finding own text) place says)))
    (rw so_far.5 at c.split_change.ensures)

pub returns : goal.returns
returns g c =
    let netlist = c.args.net.now in
    let changes = c.args.script.now.changes in
    let number = c.loop-number.number in
    let start = c.args.sequence.now.start in
    let so_far = c.loop-number.invariant in
    let text = line_of (codes "split settled" ∷ []) in
    let end : number ≡ length changes = omega (arith, c.loop-number-test.false, c.loop-number.auto.number-end, c.changes-number-end.ensures.changes) in
    let whole : take number changes ≡ changes = ap (λ (n : ℕ). take n changes) end ∙ take-length changes in
    let says : SplitsChanges c.args.cap netlist start changes status.Done text =
    subst (λ (list : List (List (ℕ × Bool))). SplitsChanges c.args.cap netlist start list status.Done text) whole
    (ends-settled netlist c.args.cap start (take number changes) so_far.0 c.loop-number.sequence so_far.1 so_far.2 so_far.3 status.Done text refl refl) in
    Ends-put g.K.Sink.output g.K.Sink.faults (SplitsChanges c.args.cap netlist start changes) c.args.out.now c.put_line.new.out status.Done text c.put_line.result c.status_after.result tt says
    (rw so_far.5 at c.put_line.ensures) c.status_after.ensures
