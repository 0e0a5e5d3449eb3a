use Rattle.std.proofs.Common.{◌≡◌, ◌<◌, ◌∙◌, ℕ, List, Some, None, false, length, set, replicate, sym, ap, subst}
use Rattle.hz_plane.specs.declared.listing.Listing.{Listing}
use Rattle.hz_plane.specs.Bits.{has_lane}
use Rattle.hz_plane.specs.Loads.{LaneLoads, lane_input, lane_listed}
use Rattle.hz_plane.proofs.LoadLemmas.{written-back, fresh-next, loads-next, same-loads}
use Rattle.hz_plane.proofs.loads.Loads.load.Goals as goal

pub invariant_of-self : goal.invariant_of-self
invariant_of-self c =
    let fields = c.self.inside in
    let listings = c.put_listed.new.listings in
    let back = written-back listings c.put_listed.auto.listings c.as_mut_slice-2.ensures.value c.as_mut_slice-2.ensures.len in
    let was : List Listing = c.as_mut_slice-2.result.now in
    record {
      fresh = subst (λ (all : List Listing). (lane : ℕ) → lane < 512 → has_lane c.put_lane.new.set lane ≡ false → lane_listed all lane ≡ replicate (length all) None) (sym back.are)
          (subst (λ (n : ℕ). (lane : ℕ) → lane < 512 → has_lane c.put_lane.new.set lane ≡ false → lane_listed listings lane ≡ replicate n None) (sym back.long)
          (fresh-next fields.loaded c.put_lane.new.set fields.inputs.items c.put_inputs.new.inputs fields.listings.items listings c.args.lane c.args.input.now c.args.listed.now c.requires.lane c.put_lane.ensures.here c.put_lane.ensures.others
          c.put_inputs.ensures.here (λ other below differ. c.put_inputs.ensures.others other below differ ∙ ap (λ (sets : List (List ℕ)). lane_input sets other) c.as_mut_slice.ensures.value)
          c.put_listed.ensures.here (λ other below differ. c.put_listed.ensures.others other below differ ∙ ap (λ (all : List Listing). lane_listed all other) c.as_mut_slice-2.ensures.value)
          (length fields.listings.items) c.self.invariant.fresh));
      no_gates = λ none. cc;
    }

pub returns : goal.returns
returns c =
    let fields = c.self.inside in
    let listings = c.put_listed.new.listings in
    let inputs = c.put_inputs.new.inputs in
    let back = written-back listings c.put_listed.auto.listings c.as_mut_slice-2.ensures.value c.as_mut_slice-2.ensures.len in
    let inputs_back = written-back inputs c.put_inputs.auto.inputs c.as_mut_slice.ensures.value c.as_mut_slice.ensures.len in
    same-loads c.put_lane.new.set _ inputs _ listings (length fields.inputs.items) (length fields.listings.items) _ inputs_back.are back.are inputs_back.long back.long
    (loads-next fields.loaded c.put_lane.new.set fields.inputs.items inputs fields.listings.items listings c.args.lane c.args.input.now c.args.listed.now c.requires.lane c.put_lane.ensures.here c.put_lane.ensures.others
    c.put_inputs.ensures.here (λ other below differ. c.put_inputs.ensures.others other below differ ∙ ap (λ (sets : List (List ℕ)). lane_input sets other) c.as_mut_slice.ensures.value)
    c.put_listed.ensures.here (λ other below differ. c.put_listed.ensures.others other below differ ∙ ap (λ (all : List Listing). lane_listed all other) c.as_mut_slice-2.ensures.value))
    ∙ ap (λ (s : LaneLoads). record s { lanes = set s.lanes c.args.lane (Some (record { input = c.args.input.now; listed = c.args.listed.now })) }) c.self.view_is
