use Rattle.std.proofs.Common.{◌≡◌, ◌∙◌, ◌++◌, ◌∷◌, [], ℕ, List, map, take, get_or, sym, ap}
use Rattle.std.proofs.lemmas.List.{map_more}
use Rattle.hz_core.specs.declared.kind.Kind.{Kind}
use Rattle.hz_core.specs.Netlist.{Netlist, gate_at}
use Rattle.hz_plane.proofs.copies.list_kinds.Goals as goal

pub loop-place-preserved : goal.loop-place-preserved
loop-place-preserved c =
    let net = c.args.net.now in
    let order = c.args.order.now in
    let place = c.loop-place.place in
    let gate = get_or order place 0 in
    let is : c.kind-kind.result ≡ (gate_at net gate).kind = c.kind-kind.ensures.kind ∙ ap (λ (n : Netlist). (gate_at n gate).kind) c.circuit.ensures.same in
    c.in_ok-push.ensures.items
    ∙ (ap (λ (kinds : List Kind). kinds ++ c.kind-kind.result ∷ []) c.loop-place.invariant
    ∙ (ap (λ (kind : Kind). map (λ (g : ℕ). (gate_at net g).kind) (take place order) ++ kind ∷ []) is
    ∙ sym (map_more (λ (g : ℕ). (gate_at net g).kind) order place 0 c.loop-place-test.true)))
