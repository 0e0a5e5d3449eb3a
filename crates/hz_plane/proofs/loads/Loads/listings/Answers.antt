use Rattle.std.proofs.Common.{◌∙◌, List, length, slice_get, sym, ap}
use Rattle.hz_plane.specs.declared.listing.Listing.{Listing}
use Rattle.hz_plane.specs.Loads.{Loaded, LaneLoads, lane_listed}
use Rattle.hz_plane.proofs.LoadLemmas.{loaded-is, count-lanes}
use Rattle.hz_plane.proofs.loads.Loads.listings.Goals as goal

pub returns-clause-count : goal.returns-clause-count
returns-clause-count c = ap (length {A = Listing}) c.as_slice.ensures.value ∙ ap (λ (s : LaneLoads). s.nodes) c.self.view_is

pub returns-clause-lanes : goal.returns-clause-lanes
returns-clause-lanes c lane loaded at =
    let fields = c.self.inside in
    ap (λ (all : List (Listing)). lane_listed all lane) c.as_slice.ensures.value
    ∙ ap (λ (l : Loaded). l.listed) (loaded-is fields.loaded fields.inputs.items fields.listings.items lane loaded (ap (λ (s : LaneLoads). slice_get s.lanes lane) c.self.view_is ∙ at))

pub returns-clause-long : goal.returns-clause-long
returns-clause-long c =
    let fields = c.self.inside in
    ap (λ (s : LaneLoads). length s.lanes) (sym c.self.view_is) ∙ count-lanes fields.loaded fields.inputs.items fields.listings.items
