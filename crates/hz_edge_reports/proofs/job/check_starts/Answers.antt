-- One start after the other.
use Rattle.std.proofs.Common.{◌≡◌, ◌∙◌, ◌+◌, ◌<◌, ℕ, Bool, List, [], ◌∷◌, ◌++◌, length, take, get_or, refl, sym, ap, subst, arith, add-one}
use Rattle.hz_edge_reports.proofs.Words.{get_or_from_slice_get, take-suc, take-length, ScriptOf, AreAcceptedStarts}
use Rattle.std.proofs.lemmas.Result.{err_from_is_err_and}
use Rattle.hz_pass.specs.Completed.{IsStartFault}
use Rattle.hz_changes.proofs.AcceptedStarts.{ListsInputs-front, start-accepted}
use Rattle.hz_edge_reports.proofs.FirstFaults.{first-fault}
use Rattle.hz_edge_reports.proofs.PartEdges.{accepted-append, part-fits}
use Rattle.hz_edge_reports.proofs.job.check_starts.Goals as goal

pub loop-place-init : goal.loop-place-init
loop-place-init c = ([], tt)

pub complete-requires-clause-listed : goal.complete-requires-clause-listed
complete-requires-clause-listed c =
    let few : c.loop-place.place < length c.args.script.now.parts = omega (arith, c.loop-place-test.true, c.parts-place-end.ensures) in
    rw c.start.ensures.start (part-fits c.args.net.now c.args.script.now.parts c.loop-place.place c.part.result.now c.requires.script.parts few c.part.ensures).nodes

pub complete-requires-clause-inputs : goal.complete-requires-clause-inputs
complete-requires-clause-inputs c =
    let few : c.loop-place.place < length c.args.script.now.parts = omega (arith, c.loop-place-test.true, c.parts-place-end.ensures) in
    let is = part-fits c.args.net.now c.args.script.now.parts c.loop-place.place c.part.result.now c.requires.script.parts few c.part.ensures in
    rw c.start.ensures.start (ListsInputs-front c.args.net.now c.part.result.now.start (omega (arith, c.requires.circuit.nodes, is.nodes)) is.inputs)

pub loop-place-preserved : goal.loop-place-preserved
loop-place-preserved c =
    let parts = c.args.script.now.parts in
    let place = c.loop-place.place in
    let part = c.part.result.now in
    let so_far = c.loop-place.invariant in
    let few : place < length parts = omega (arith, c.loop-place-test.true, c.parts-place-end.ensures) in
    let taken : take (place + 1) parts ≡ take place parts ++ part ∷ [] =
    rw add-one (take-suc parts place part few)
    ∙ ap (λ (one : ScriptOf). take place parts ++ one ∷ []) (get_or_from_slice_get parts place part part c.part.ensures) in
    let begin = c.in_ok-complete.field-0.items in
    let accepted = start-accepted c.args.net.now c.start.result.now part.start begin begin c.start.ensures.start refl c.in_ok-complete.ensures.start in
    subst (λ (list : List ScriptOf). (starts : List (List Bool)) × AreAcceptedStarts c.args.net.now list starts) (sym taken)
    (so_far.0 ++ begin ∷ [], accepted-append c.args.net.now (take place parts) so_far.0 (part ∷ []) (begin ∷ []) so_far.1 (accepted, tt))

pub returns-in_err-complete : goal.returns-in_err-complete
returns-in_err-complete c =
    let p = err_from_is_err_and c.from_residual.result c.from_residual.ensures.1 in
    let parts = c.args.script.now.parts in
    let place = c.loop-place.place in
    let part = c.part.result.now in
    let few : place < length parts = omega (arith, c.loop-place-test.true, c.parts-place-end.ensures) in
    let is : get_or parts place part ≡ part = get_or_from_slice_get parts place part part c.part.ensures in
    let fault = c.in_err-complete.field-0.0 in
    let told : IsStartFault c.args.net.now (get_or parts place part).start fault = rw (is, sym c.start.ensures.start) c.in_err-complete.ensures.start in
    rw (p.1, p.2) (first-fault c.args.net.now parts c.loop-place.invariant.0 place part fault c.loop-place.invariant.1 few told)

pub returns : goal.returns
returns c =
    let parts = c.args.script.now.parts in
    let place = c.loop-place.place in
    let end : place ≡ length parts = omega (arith, c.loop-place-test.false, c.loop-place.auto.place-end, c.parts-place-end.ensures) in
    let whole : take place parts ≡ parts = ap (λ (n : ℕ). take n parts) end ∙ take-length parts in
    subst (λ (list : List ScriptOf). (starts : List (List Bool)) × AreAcceptedStarts c.args.net.now list starts) whole c.loop-place.invariant
