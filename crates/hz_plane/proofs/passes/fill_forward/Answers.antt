use Rattle.std.proofs.Common.{◌≡◌, ◌∙◌, Some, None, [], length, get_or, sym, ap, subst, arith}
use Rattle.std.proofs.lemmas.List.{get_or-map}
use Rattle.std.proofs.lemmas.Option.{get_or_from_slice_get}
use Rattle.hz_core.specs.Netlist.{Netlist}
use Rattle.hz_core.specs.Ternary.{tri_of}
use Rattle.hz_plane.specs.declared.listing.Listing.{Listing}
use Rattle.hz_plane.specs.declared.pair.Pair.{Pair}
use Rattle.hz_plane.specs.Bits.{HasValue}
use Rattle.hz_plane.specs.Loads.{listed_in, lane_listed}
use Rattle.hz_plane.proofs.ForwardLanes.{evaluated-planes, forward-start}
use Rattle.hz_plane.proofs.passes.fill_forward.Goals as goal

pub returns-clause-planes : goal.returns-clause-planes
returns-clause-planes c =
    evaluated-planes c.args.net.now c.requires.schedule.circuit c.requires.schedule.whole c.evaluate_all.new.planes (c.evaluate_all.auto.planes ∙ (c.list_bits.auto.values ∙ c.requires.values)) c.evaluate_all.ensures.evaluated

pub returns-clause-lanes : goal.returns-clause-lanes
returns-clause-lanes c lane inside inputs none =
    let net = c.args.net.now in
    let is = c.requires.schedule in
    let listings = c.args.listings.now in
    let planes = c.evaluate_all.new.planes in
    let long : length planes ≡ length net.names = c.evaluate_all.auto.planes ∙ (c.list_bits.auto.values ∙ c.requires.values) in
    let count : c.inputs.result ≡ net.inputs = c.inputs.ensures.inputs ∙ ap (λ (n : Netlist). n.inputs) c.circuit.ensures.same in
    forward-start net is.circuit is.whole planes long c.evaluate_all.ensures.evaluated lane inside _ _ _ is.order is.back (is.forward c.requires.forward)
    (lane_listed listings lane) inputs none (λ node bit few at.
    let d : Listing = record { zeros = []; ones = [] } in
    let listed : listed_in (get_or listings node d) lane ≡ Some bit =
    sym (get_or-map (λ (listing : Listing). listed_in listing lane) listings node d None (omega (arith, few, c.requires.listings, is.circuit.nodes))) ∙ get_or_from_slice_get (lane_listed listings lane) node (Some bit) None at in
    subst (λ (p : Pair). HasValue p lane (tri_of bit)) (sym (c.evaluate_all.ensures.inputs node few)) (c.list_bits.ensures.lanes node lane bit (omega (arith, few, count)) inside listed))
