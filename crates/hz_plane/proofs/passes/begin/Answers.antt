use Rattle.std.proofs.Common.{◌∙◌, ◌<◌, Some, None, Option, Bool, [], length, sym, ap, subst, arith}
use Rattle.std.proofs.lemmas.List.{length-map, get_or-map}
use Rattle.hz_core.specs.declared.tri.Tri.TheVariants.{Zero}
use Rattle.hz_plane.specs.declared.listing.Listing.{Listing}
use Rattle.hz_plane.specs.Bits.{HasValue}
use Rattle.hz_plane.specs.Pairs.{pair_at}
use Rattle.hz_plane.specs.Lanes.{listed_value}
use Rattle.hz_plane.specs.Loads.{listed_in, lane_listed}
use Rattle.hz_plane.proofs.passes.begin.Goals as goal

pub returns-clause-planes : goal.returns-clause-planes
returns-clause-planes c = record { each = λ node below. c.loop-node.invariant.planes node (omega (arith, below, c.loop-node-test.false, c.loop-node.auto.values, c.requires)) }

pub returns-clause-lanes : goal.returns-clause-lanes
returns-clause-lanes c lane inside =
    let listings = c.args.listings.now in
    let entries = lane_listed listings lane in
    let count = length-map listings (λ (listing : Listing). listed_in listing lane) in
    record {
      long = length-map entries (λ (listed : Option Bool). listed_value (Some listed)) ∙ omega (arith, count, c.loop-node.auto.values, c.requires);
      each = λ node below.
          let few : node < length listings = omega (arith, below, c.loop-node.auto.values, c.requires) in
          let d : Listing = record { zeros = []; ones = [] } in
          subst (HasValue (pair_at c.loop-node.values node) lane)
          (sym (get_or-map (λ (listed : Option Bool). listed_value (Some listed)) entries node None Zero (omega (arith, few, count)) ∙ ap (λ (listed : Option Bool). listed_value (Some listed)) (get_or-map (λ (listing : Listing). listed_in listing lane) listings node d None few)))
          (c.loop-node.invariant.lanes lane node inside (omega (arith, few, c.loop-node-test.false)));
    }
