use Rattle.std.proofs.Common.{◌≡◌, ◌∙◌, ◌++◌, ◌∷◌, [], ℕ, List, map, take, get_or, sym, ap}
use Rattle.smallvec.specs.SmallVec.{SmallVec}
use Rattle.std.proofs.lemmas.List.{map_more, map-append}
use Rattle.hz_core.specs.Netlist.{Netlist, gate_at}
use Rattle.hz_plane.proofs.copies.all_pins.Goals as goal

pub loop-place-preserved : goal.loop-place-preserved
loop-place-preserved c =
    let net = c.args.net.now in
    let order = c.args.order.now in
    let place = c.loop-place.place in
    let gate = get_or order place 0 in
    let list = c.in_ok-list.list in
    let is : list.items ≡ (gate_at net gate).sources = c.in_ok-list.ensures ∙ (c.sources.ensures.sources ∙ ap (λ (n : Netlist). (gate_at n gate).sources) c.circuit.ensures.same) in
    ap (map (λ (part : SmallVec ℕ). part.items)) c.in_ok-push.ensures.items
    ∙ (map-append (λ (part : SmallVec ℕ). part.items) c.loop-place.lists.items (list ∷ [])
    ∙ (ap (λ (lists : List (List ℕ)). lists ++ list.items ∷ []) c.loop-place.invariant
    ∙ (ap (λ (part : List ℕ). map (λ (g : ℕ). (gate_at net g).sources) (take place order) ++ part ∷ []) is
    ∙ sym (map_more (λ (g : ℕ). (gate_at net g).sources) order place 0 c.loop-place-test.true))))
