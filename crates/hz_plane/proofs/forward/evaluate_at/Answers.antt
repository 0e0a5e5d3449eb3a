use Rattle.std.proofs.Common.{◌≡◌, ◌∙◌, ◌+◌, ℕ, List, [], get_or, set, sym, ap, subst, arith}
use Rattle.std.specs.Prelude.{All}
use Rattle.std.proofs.lemmas.List.{get_or-set_other, get_or-map}
use Rattle.hz_core.specs.declared.kind.Kind.{Kind}
use Rattle.hz_core.specs.declared.kind.Kind.TheVariants.{And}
use Rattle.hz_core.specs.Netlist.{IsGateNumber, gate_at}
use Rattle.hz_plane.specs.declared.pair.Pair.{Pair}
use Rattle.hz_plane.specs.Forward.{IsKnownPair, AreEvaluatedBelow}
use Rattle.hz_plane.specs.Pairs.{pair_at, no_pair}
use Rattle.hz_plane.specs.Sweeps.{readers_at}
use Rattle.hz_plane.specs.Steps.{gate_pair}
use Rattle.hz_plane.proofs.Forwards.{sources-known, evaluated-more}
use Rattle.hz_plane.proofs.forward.evaluate_at.Goals as goal

pub evaluate-requires-clause-known : goal.evaluate-requires-clause-known
evaluate-requires-clause-known c =
    let net = c.args.net.now in
    let schedule = c.args.schedule.now in
    subst (λ (order : List ℕ). All (λ source. IsKnownPair (pair_at c.args.planes.now source)) (gate_at net (get_or order c.args.place 0)).sources) (sym c.as_slice.ensures.value)
    (sources-known net c.requires.schedule.circuit schedule.order.items schedule.readers schedule.back c.requires.schedule.order c.requires.schedule.back (c.requires.schedule.forward c.requires.forward) c.args.planes.now c.args.place c.requires.place c.requires.below)

pub returns-clause-below : goal.returns-clause-below
returns-clause-below c =
    let net = c.args.net.now in
    let schedule = c.args.schedule.now in
    let planes = c.args.planes.now in
    let gate = get_or schedule.order.items c.args.place 0 in
    let made : c.evaluate.new.planes ≡ set planes gate (gate_pair net planes gate) =
    subst (λ (order : List ℕ). c.evaluate.new.planes ≡ set planes (get_or order c.args.place 0) (gate_pair net planes (get_or order c.args.place 0))) c.as_slice.ensures.value c.evaluate.ensures.made in
    let known : IsKnownPair (gate_pair net planes gate) = subst (λ (order : List ℕ). IsKnownPair (gate_pair net planes (get_or order c.args.place 0))) c.as_slice.ensures.value c.evaluate.ensures.known in
    subst (AreEvaluatedBelow (c.args.place + 1) net schedule.order.items) (sym made)
    (evaluated-more net c.requires.schedule.circuit schedule.order.items schedule.readers schedule.back c.requires.schedule.order c.requires.schedule.back (c.requires.schedule.forward c.requires.forward) planes c.args.place c.requires.long c.requires.place c.requires.below known)

pub returns-clause-inputs : goal.returns-clause-inputs
returns-clause-inputs c input few =
    let net = c.args.net.now in
    let planes = c.args.planes.now in
    let gate = get_or c.args.schedule.now.order.items c.args.place 0 in
    let made : c.evaluate.new.planes ≡ set planes gate (gate_pair net planes gate) =
    subst (λ (order : List ℕ). c.evaluate.new.planes ≡ set planes (get_or order c.args.place 0) (gate_pair net planes (get_or order c.args.place 0))) c.as_slice.ensures.value c.evaluate.ensures.made in
    let is_gate : IsGateNumber net gate = c.requires.schedule.order.gates c.args.place 0 c.requires.place in
    ap (λ (after : List Pair). pair_at after input) made ∙ get_or-set_other planes gate input (gate_pair net planes gate) no_pair (omega (arith, few, is_gate.0))

pub evaluate-requires-clause-kind : goal.evaluate-requires-clause-kind
evaluate-requires-clause-kind c =
    let net = c.args.net.now in
    let schedule = c.args.schedule.now in
    let place = c.args.place in
    ap (λ (kinds : List Kind). get_or kinds place And) (c.as_slice-2.ensures.value ∙ c.requires.schedule.kinds)
    ∙ (get_or-map (λ (gate : ℕ). (gate_at net gate).kind) schedule.order.items place 0 And c.requires.place
    ∙ ap (λ (order : List ℕ). (gate_at net (get_or order place 0)).kind) (sym c.as_slice.ensures.value))

pub evaluate-requires-clause-sources : goal.evaluate-requires-clause-sources
evaluate-requires-clause-sources c =
    let net = c.args.net.now in
    let schedule = c.args.schedule.now in
    let place = c.args.place in
    c.at.ensures ∙ (ap (λ (pins : List (List ℕ)). readers_at pins place) c.requires.schedule.pins
    ∙ (get_or-map (λ (gate : ℕ). (gate_at net gate).sources) schedule.order.items place 0 [] c.requires.place
    ∙ ap (λ (order : List ℕ). (gate_at net (get_or order place 0)).sources) (sym c.as_slice.ensures.value)))
