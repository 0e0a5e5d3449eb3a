use Rattle.std.proofs.Common.{◌≡◌, ◌<◌, ◌∙◌, ◌+◌, ◌++◌, ◌∷◌, [], ℕ, List, true, Some, nat_eq, take, drop, get_or, length, sym, ap, arith, take-append-drop}
use Rattle.std.specs.Option.{IfSome}
use Rattle.std.proofs.lemmas.List.{take_more}
use Rattle.hz_text.specs.Assignment.{Assigned, has_repeat}
use Rattle.hz_text.specs.Rules.{assigned_nodes, AreBelow}
use Rattle.hz_text.proofs.NodeLemmas.{AreMarked, AreMarked-push, AreMarked-push_none, has_repeat-marked}
use Rattle.hz_text.proofs.assignments.repeats.Goals as goal
use Rattle.hz_text.proofs.assignments.repeats.Goals.{in-Some+else-marks-node, in_default}

below : (all : List Assigned) (d : Assigned) (i node bound : ℕ) → AreBelow bound all → i < length all → (get_or all i d).node ≡ Some node → node < bound
below all d i node bound h l e = let one : IfSome (get_or all i d).node (λ node. node < bound) = h i d l in rw e at one

stops : (all : List Assigned) (d : Assigned) (i node mark : ℕ) (marks : List ℕ) → i < length all → AreMarked (take i all) marks mark → (get_or all i d).node ≡ Some node → node < length marks → get_or marks node 0 ≡ mark → true ≡ has_repeat nat_eq (assigned_nodes all)
stops all d i node mark marks l h e within at =
    let whole : (take i all ++ get_or all i d ∷ []) ++ drop (i + 1) all ≡ all = ap (λ front. front ++ drop (i + 1) all) (sym (take_more all i d l)) ∙ take-append-drop (i + 1) all in
    sym (rw whole at (has_repeat-marked (take i all) (drop (i + 1) all) (get_or all i d) marks mark node e within at h))

pub returns-then-marks-node-clause-repeats : goal.returns-then-marks-node-clause-repeats
returns-then-marks-node-clause-repeats c =
    let all = c.args.all.now in
    let i = c.loop-assigned.assigned-index in
    let d = c.assigned-item.result in
    let node : (get_or all i d).node ≡ Some c.in-Some.node = ap (λ (one : Assigned). one.node) (sym (c.assigned.view_is ∙ c.assigned-item.is)) ∙ c.in-Some.is in
    let within : c.in-Some.node < length c.loop-assigned.marks = omega (arith, below all d i c.in-Some.node (length c.args.marks.now) c.requires.nodes c.loop-assigned-test.true node, c.loop-assigned.auto.marks) in
    stops all d i c.in-Some.node c.args.mark c.loop-assigned.marks c.loop-assigned-test.true c.loop-assigned.invariant node within c.if-marks-node.true

pub loop-assigned-preserved : goal.loop-assigned-preserved
loop-assigned-preserved c =
    let all = c.args.all.now in
    let i = c.loop-assigned.assigned-index in
    let d = c.assigned-item.result in
    let same : (get_or all i d).node ≡ c.assigned.inside.node = ap (λ (one : Assigned). one.node) (sym (c.assigned.view_is ∙ c.assigned-item.is)) in
    elim c.match-assigned.branch [
      | in-Some+else-marks-node w ↦
          let within : w.in-Some.node < length c.loop-assigned.marks = omega (arith, below all d i w.in-Some.node (length c.args.marks.now) c.requires.nodes c.loop-assigned-test.true (same ∙ w.in-Some.is), c.loop-assigned.auto.marks) in
          rw (w.marks-is, take_more all i d c.loop-assigned-test.true)
          (AreMarked-push (take i all) (get_or all i d) c.loop-assigned.marks c.args.mark w.in-Some.node (same ∙ w.in-Some.is) within w.if-marks-node.false c.loop-assigned.invariant)
      | in_default w ↦
          rw (w.marks-is, take_more all i d c.loop-assigned-test.true)
          (AreMarked-push_none (take i all) (get_or all i d) c.loop-assigned.marks c.args.mark (same ∙ w.in_default.is) c.loop-assigned.invariant)
    ]
