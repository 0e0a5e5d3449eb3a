use Rattle.std.proofs.Common.{◌≡◌, ◌∙◌, ◌+◌, false, replicate, take, get_or, length, sym, ap, arith, rules}
use Rattle.std.proofs.lemmas.List.{take_more}
use Rattle.hz_text.specs.Assignment.{Assigned}
use Rattle.hz_text.proofs.NodeLemmas.{marks_of, marks_of-none, marks_of-push, length-marks, written_whole}
use Rattle.hz_text.proofs.assignments.listed_nodes.Goals as goal

pub loop-assigned-init : goal.loop-assigned-init
loop-assigned-init c =
    let filled : c.in_ok-listed.listed.items ≡ replicate c.args.nodes false = search rules in
    filled ∙ marks_of-none c.args.nodes

pub loop-assigned-preserved : goal.loop-assigned-preserved
loop-assigned-preserved c =
    let all = c.args.all.now in
    let i = c.loop-assigned.assigned-index in
    let d = c.assigned-item.result in
    let one = get_or all i d in
    let items = c.loop-assigned.invariant in
    let node : c.assigned.inside.node ≡ one.node = ap (λ (one : Assigned). one.node) (c.assigned.view_is ∙ c.assigned-item.is) in
    let more : c.mark.new.marks ≡ marks_of (take (i + 1) all) c.args.nodes = rw (c.mark.ensures, c.as_mut_slice.ensures.value, items, node, take_more all i d c.loop-assigned-test.true) (marks_of-push (take i all) one c.args.nodes) in
    let long : length c.loop-assigned.listed.items ≡ c.args.nodes = ap length items ∙ length-marks (take i all) c.args.nodes in
    written_whole c.mark.new.marks c.loop-assigned.listed.items c.loop-assigned.listed.len (omega (arith, ap length more, length-marks (take (i + 1) all) c.args.nodes, c.loop-assigned.listed.ok.0, long)) (sym c.loop-assigned.listed.ok.0) ∙ more

pub returns-clause-len : goal.returns-clause-len
returns-clause-len c =
    omega (arith, ap length c.loop-assigned.invariant, length-marks (take c.loop-assigned.assigned-index c.args.all.now) c.args.nodes, c.loop-assigned.listed.ok.0)
