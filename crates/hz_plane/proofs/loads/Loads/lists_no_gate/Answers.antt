use Rattle.std.proofs.Common.{◌<◌, ◌∙◌, Bool, Option, Some, None, length, slice_get, sym, ap, arith}
use Rattle.std.proofs.lemmas.List.{length-map}
use Rattle.std.proofs.lemmas.Option.{slice_get-get_or, slice_get_within}
use Rattle.hz_plane.specs.declared.listing.Listing.{Listing}
use Rattle.hz_plane.specs.Loads.{Loaded, LaneLoads, listed_in, lane_listed}
use Rattle.hz_plane.proofs.LoadLemmas.{loaded-is, count-lanes}
use Rattle.hz_plane.proofs.loads.Loads.lists_no_gate.Goals as goal

pub returns : goal.returns
returns c none lane loaded at gate past within =
    let fields = c.self.inside in
    let listings = fields.listings.items in
    let there = ap (λ (s : LaneLoads). slice_get s.lanes lane) c.self.view_is ∙ at in
    let below : lane < 512 = omega (arith, slice_get_within c.args.self.now.lanes lane (Some loaded) at, ap (λ (s : LaneLoads). length s.lanes) (sym c.self.view_is), count-lanes fields.loaded fields.inputs.items listings) in
    let inside : gate < length listings = omega (arith, within, ap (λ (s : LaneLoads). s.nodes) c.self.view_is) in
    let few : gate < length (lane_listed listings lane) = omega (arith, inside, length-map listings (λ (listing : Listing). listed_in listing lane)) in
    ap (λ (l : Loaded). slice_get l.listed gate) (sym (loaded-is fields.loaded fields.inputs.items listings lane loaded there))
    ∙ (slice_get-get_or (lane_listed listings lane) gate None few
    ∙ ap (λ (o : Option Bool). Some o) (c.self.invariant.no_gates none lane gate below (omega (arith, past, ap (λ (s : LaneLoads). s.inputs) c.self.view_is)) inside))
