use Rattle.std.proofs.Common.{◌≡◌, ◌<◌, ◌∙◌, ℕ, List, None, true, false, refl, length, map, get_or, replicate, sym, ap, subst, arith}
use Rattle.std.proofs.lemmas.List.{nil_from_length}
use Rattle.hz_plane.specs.declared.listing.Listing.{Listing}
use Rattle.hz_plane.specs.Bits.{has_lane}
use Rattle.hz_plane.specs.Loads.{LaneLoads, lane_listed, held_at, held_load}
use Rattle.hz_plane.proofs.LoadLemmas.{written-back, same-loads}
use Rattle.hz_plane.proofs.BlockLoads.{loads-held, fresh-held, unlisted-held}
use Rattle.hz_plane.proofs.loads.Loads.hold.Goals as goal

pub invariant_of-self : goal.invariant_of-self
invariant_of-self c =
    let fields = c.self.inside in
    let held = c.args.held.now in
    let listings = c.hold_lanes.new.listings in
    let value = c.as_mut_slice.ensures.value in
    let back = written-back listings c.hold_lanes.auto.listings value c.as_mut_slice.ensures.len in
    let here : (lane : ℕ) → lane < 512 → has_lane fields.loaded lane ≡ true → lane_listed listings lane ≡ held_at held (lane_listed fields.listings.items lane) = λ lane below is.
    c.hold_lanes.ensures.here lane below is ∙ ap (λ (all : List Listing). held_at held (lane_listed all lane)) value in
    let others : (other : ℕ) → other < 512 → has_lane fields.loaded other ≡ false → lane_listed listings other ≡ lane_listed fields.listings.items other = λ other below out.
    c.hold_lanes.ensures.others other below out ∙ ap (λ (all : List Listing). lane_listed all other) value in
    record {
      fresh = subst (λ (all : List Listing). (lane : ℕ) → lane < 512 → has_lane fields.loaded lane ≡ false → lane_listed all lane ≡ replicate (length all) None) (sym back.are)
          (subst (λ (n : ℕ). (lane : ℕ) → lane < 512 → has_lane fields.loaded lane ≡ false → lane_listed listings lane ≡ replicate n None) (sym back.long)
          (fresh-held held fields.loaded fields.inputs.items fields.listings.items listings here others (length fields.listings.items) c.self.invariant.fresh));
      no_gates = λ none other gate below past within.
          let before = c.are_none_with-self-inside.ensures none in
          let inside : gate < length fields.listings.items = omega (arith, within, ap (length {A = Listing}) back.are, back.long) in
          ap (λ (all : List Listing). get_or (lane_listed all other) gate None) back.are
          ∙ unlisted-held held fields.loaded fields.inputs.items fields.listings.items listings here others gate (nil_from_length held before.1) (λ one small. c.self.invariant.no_gates before.0 one gate small past inside) other below;
    }

pub returns : goal.returns
returns c =
    let fields = c.self.inside in
    let held = c.args.held.now in
    let listings = c.hold_lanes.new.listings in
    let value = c.as_mut_slice.ensures.value in
    let back = written-back listings c.hold_lanes.auto.listings value c.as_mut_slice.ensures.len in
    let here : (lane : ℕ) → lane < 512 → has_lane fields.loaded lane ≡ true → lane_listed listings lane ≡ held_at held (lane_listed fields.listings.items lane) = λ lane below is.
    c.hold_lanes.ensures.here lane below is ∙ ap (λ (all : List Listing). held_at held (lane_listed all lane)) value in
    let others : (other : ℕ) → other < 512 → has_lane fields.loaded other ≡ false → lane_listed listings other ≡ lane_listed fields.listings.items other = λ other below out.
    c.hold_lanes.ensures.others other below out ∙ ap (λ (all : List Listing). lane_listed all other) value in
    same-loads fields.loaded fields.inputs.items fields.inputs.items _ listings (length fields.inputs.items) (length fields.listings.items) _ refl back.are refl back.long
    (loads-held held fields.loaded fields.inputs.items fields.listings.items listings here others)
    ∙ ap (λ (s : LaneLoads). record s { lanes = map (held_load held) s.lanes }) c.self.view_is
