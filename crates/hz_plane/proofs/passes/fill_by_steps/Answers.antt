use Rattle.std.proofs.Common.{◌∙◌}
use Rattle.std.proofs.lemmas.List.{length-map}
use Rattle.hz_plane.specs.declared.listing.Listing.{Listing}
use Rattle.hz_plane.specs.declared.rule.Rule.TheVariants.{Narrow}
use Rattle.hz_plane.specs.Lanes.{listed_values}
use Rattle.hz_plane.specs.Loads.{listed_in, lane_listed}
use Rattle.hz_plane.proofs.PassLanes.{lane-ran, fill-lane, begins-listed}
use Rattle.hz_plane.proofs.passes.fill_by_steps.Goals as goal

pub returns-clause-lanes : goal.returns-clause-lanes
returns-clause-lanes c lane inside inputs =
    let net = c.args.net.now in
    let listings = c.args.listings.now in
    let first = listed_values listings lane in
    fill-lane net c.run.new.planes lane (lane_listed listings lane) first c.requires.schedule.circuit
    (lane-ran Narrow net c.begin.new.values c.run.new.planes lane first c.requires.schedule.circuit c.requires.schedule.whole inside (c.begin.auto.values ∙ c.requires.values) c.begin.ensures.planes c.run.ensures.planes c.run.ensures.ran c.run.ensures.still (c.begin.ensures.lanes lane inside))
    (begins-listed listings lane net c.requires.listings) (length-map listings (λ (listing : Listing). listed_in listing lane) ∙ c.requires.listings) inputs
