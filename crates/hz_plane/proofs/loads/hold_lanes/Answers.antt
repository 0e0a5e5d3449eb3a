use Rattle.std.proofs.Common.{◌<◌, ◌∙◌, ℕ, Bool, List, Option, Some, None, false, length, get_or, set, sym, ap, arith}
use Rattle.std.proofs.lemmas.List.{map-set}
use Rattle.hz_plane.specs.declared.listing.Listing.{Listing}
use Rattle.hz_plane.specs.Loads.{listed_in, lane_listed}
use Rattle.hz_plane.proofs.LoadLemmas.{unwritten, held-next}
use Rattle.hz_plane.proofs.loads.hold_lanes.Goals as goal

pub loop-node-preserved : goal.loop-node-preserved
loop-node-preserved c =
    let held = c.args.held.now in
    let k = c.loop-node.node-index in
    let item : ℕ × Bool = get_or held k (0, false) in
    let inside : item.0 < length c.loop-node.listings = omega (arith, c.requires.held k (0, false) c.loop-node-test.true, c.loop-node.auto.listings) in
    record {
      here = λ lane below is.
          map-set (λ (listing : Listing). listed_in listing lane) c.loop-node.listings item.0 c.hold.new.self
          ∙ (ap (set (lane_listed c.loop-node.listings lane) item.0) (c.hold.ensures.here lane below is)
          ∙ (ap (λ (list : List (Option Bool)). set list item.0 (Some item.1)) (c.loop-node.invariant.here lane below is)
          ∙ sym (held-next held (lane_listed c.args.listings.now lane) k (0, false) c.loop-node-test.true)));
      others = λ other below out. unwritten (λ (listing : Listing). listed_in listing other) c.loop-node.listings item.0 c.hold.new.self _ None inside (c.hold.ensures.others other below out) ∙ c.loop-node.invariant.others other below out;
    }
