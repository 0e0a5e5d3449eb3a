use Rattle.std.proofs.Common.{◌≡◌, ◌≢◌, ◌<◌, ◌≤◌, ◌∙◌, ℕ, List, Some, None, [], false, length, get_or, set, replicate, slice_get, sym, ap, subst, arith}
use Rattle.hz_plane.specs.declared.listing.Listing.{Listing}
use Rattle.hz_plane.specs.Bits.{has_lane}
use Rattle.hz_plane.specs.Loads.{LaneLoads, lane_input, lane_listed, listed_with}
use Rattle.hz_plane.proofs.LoadLemmas.{written-back, fresh-next, unlisted-next, none-past, loads-next, same-loads, fresh-lane, first-listed}
use Rattle.hz_plane.proofs.loads.Loads.load_one.Goals as goal

pub list_inputs-requires-clause-none : goal.list_inputs-requires-clause-none
list_inputs-requires-clause-none c =
    let fields = c.self.inside in
    fresh-lane fields.loaded fields.inputs.items fields.listings.items c.as_mut_slice-2.result.now c.args.lane c.requires.lane c.self.invariant.fresh (ap (λ (s : LaneLoads). slice_get s.lanes c.args.lane) c.self.view_is ∙ c.requires.none) c.as_mut_slice-2.ensures.value

pub invariant_of-self : goal.invariant_of-self
invariant_of-self c =
    let fields = c.self.inside in
    let n = length fields.listings.items in
    let inputs = c.put_inputs.new.inputs in
    let listings = c.list_inputs.new.listings in
    let listed = listed_with n c.args.first.now [] in
    let back = written-back listings c.list_inputs.auto.listings c.as_mut_slice-2.ensures.value c.as_mut_slice-2.ensures.len in
    let inputs_back = written-back inputs c.put_inputs.auto.inputs c.as_mut_slice.ensures.value c.as_mut_slice.ensures.len in
    let other_inputs : (other : ℕ) → other < 512 → other ≢ c.args.lane → lane_input inputs other ≡ lane_input fields.inputs.items other = λ other below differ.
    c.put_inputs.ensures.others other below differ ∙ ap (λ (sets : List (List ℕ)). lane_input sets other) c.as_mut_slice.ensures.value in
    let others_listed : (other : ℕ) → other < 512 → other ≢ c.args.lane → lane_listed listings other ≡ lane_listed fields.listings.items other = λ other below differ.
    c.list_inputs.ensures.others other below differ ∙ ap (λ (all : List Listing). lane_listed all other) c.as_mut_slice-2.ensures.value in
    let none : lane_listed c.as_mut_slice-2.result.now c.args.lane ≡ replicate (length c.as_mut_slice-2.result.now) None =
    fresh-lane fields.loaded fields.inputs.items fields.listings.items c.as_mut_slice-2.result.now c.args.lane c.requires.lane c.self.invariant.fresh (ap (λ (s : LaneLoads). slice_get s.lanes c.args.lane) c.self.view_is ∙ c.requires.none) c.as_mut_slice-2.ensures.value in
    let here : lane_listed listings c.args.lane ≡ listed = first-listed c.as_mut_slice-2.result.now listings c.args.lane n c.args.first.now none (ap (length {A = Listing}) c.as_mut_slice-2.ensures.value) c.list_inputs.ensures.here in
    record {
      fresh = subst (λ (all : List Listing). (lane : ℕ) → lane < 512 → has_lane c.put_lane.new.set lane ≡ false → lane_listed all lane ≡ replicate (length all) None) (sym back.are)
          (subst (λ (count : ℕ). (lane : ℕ) → lane < 512 → has_lane c.put_lane.new.set lane ≡ false → lane_listed listings lane ≡ replicate count None) (sym back.long)
          (fresh-next fields.loaded c.put_lane.new.set fields.inputs.items inputs fields.listings.items listings c.args.lane c.args.input.now listed c.requires.lane c.put_lane.ensures.here c.put_lane.ensures.others c.put_inputs.ensures.here other_inputs here others_listed n c.self.invariant.fresh));
      no_gates = λ known other gate below past within.
          let beyond : length fields.inputs.items ≤ gate = omega (arith, past, ap (length {A = List ℕ}) inputs_back.are, inputs_back.long) in
          let inside : gate < n = omega (arith, within, ap (length {A = Listing}) back.are, back.long) in
          let first : length c.args.first.now ≤ gate = omega (arith, beyond, c.requires.inputs, ap (λ (s : LaneLoads). s.inputs) c.self.view_is) in
          ap (λ (all : List Listing). get_or (lane_listed all other) gate None) back.are
          ∙ unlisted-next fields.loaded c.put_lane.new.set fields.inputs.items inputs fields.listings.items listings c.args.lane c.args.input.now listed c.requires.lane c.put_lane.ensures.here c.put_lane.ensures.others c.put_inputs.ensures.here other_inputs here others_listed
          gate (none-past n c.args.first.now gate first inside) (λ one few. c.self.invariant.no_gates known one gate few beyond inside) other below;
    }

pub returns : goal.returns
returns c =
    let fields = c.self.inside in
    let n = length fields.listings.items in
    let inputs = c.put_inputs.new.inputs in
    let listings = c.list_inputs.new.listings in
    let back = written-back listings c.list_inputs.auto.listings c.as_mut_slice-2.ensures.value c.as_mut_slice-2.ensures.len in
    let inputs_back = written-back inputs c.put_inputs.auto.inputs c.as_mut_slice.ensures.value c.as_mut_slice.ensures.len in
    let none : lane_listed c.as_mut_slice-2.result.now c.args.lane ≡ replicate (length c.as_mut_slice-2.result.now) None =
    fresh-lane fields.loaded fields.inputs.items fields.listings.items c.as_mut_slice-2.result.now c.args.lane c.requires.lane c.self.invariant.fresh (ap (λ (s : LaneLoads). slice_get s.lanes c.args.lane) c.self.view_is ∙ c.requires.none) c.as_mut_slice-2.ensures.value in
    let here : lane_listed listings c.args.lane ≡ listed_with n c.args.first.now [] = first-listed c.as_mut_slice-2.result.now listings c.args.lane n c.args.first.now none (ap (length {A = Listing}) c.as_mut_slice-2.ensures.value) c.list_inputs.ensures.here in
    same-loads c.put_lane.new.set _ inputs _ listings (length fields.inputs.items) n _ inputs_back.are back.are inputs_back.long back.long
    (loads-next fields.loaded c.put_lane.new.set fields.inputs.items inputs fields.listings.items listings c.args.lane c.args.input.now (listed_with n c.args.first.now []) c.requires.lane c.put_lane.ensures.here c.put_lane.ensures.others
    c.put_inputs.ensures.here (λ other below differ. c.put_inputs.ensures.others other below differ ∙ ap (λ (sets : List (List ℕ)). lane_input sets other) c.as_mut_slice.ensures.value)
    here (λ other below differ. c.list_inputs.ensures.others other below differ ∙ ap (λ (all : List Listing). lane_listed all other) c.as_mut_slice-2.ensures.value))
    ∙ ap (λ (s : LaneLoads). record s { lanes = set s.lanes c.args.lane (Some (record { input = c.args.input.now; listed = listed_with s.nodes c.args.first.now [] })) }) c.self.view_is
