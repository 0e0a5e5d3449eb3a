use Rattle.std.proofs.Common.{◌≡◌, ◌≢◌, ◌<◌, ◌≤◌, ◌+◌, ◌*◌, ◌/◌, ◌%◌, ◌++◌, ◌∙◌, ℕ, Bool, Option, List, Some, None, [], false, true, length, get_or, take, drop, replicate, slice_get, sym, ap, subst, arith, rules}
use Rattle.std.proofs.lemmas.List.{length-take}
use Rattle.hz_plane.specs.declared.listing.Listing.{Listing}
use Rattle.hz_plane.specs.Bits.{has_lane}
use Rattle.hz_plane.specs.Loads.{LaneLoads, lane_input, lane_listed, lane_loads, listed_with, loaded_from}
use Rattle.hz_plane.proofs.ByteLemmas.{all-bits}
use Rattle.hz_plane.proofs.LoadLemmas.{written-back, none-past, fresh-lane}
use Rattle.hz_plane.proofs.BlockLoads.{lane-begins, eight-input, same-input, eight-loaded, others-loaded, fresh-eight, unlisted-eight}
use Rattle.hz_plane.proofs.loads.Loads.load_eight.Goals as goal

pub start_eight-requires-clause-none : goal.start_eight-requires-clause-none
start_eight-requires-clause-none c lane same =
    let fields = c.self.inside in
    fresh-lane fields.loaded fields.inputs.items fields.listings.items c.as_mut_slice-2.result.now lane (omega (arith, same, c.requires.eight)) c.self.invariant.fresh (ap (λ (s : LaneLoads). slice_get s.lanes lane) c.self.view_is ∙ c.requires.none lane same) c.as_mut_slice-2.ensures.value

pub invariant_of-self : goal.invariant_of-self
invariant_of-self c =
    let fields = c.self.inside in
    let listings = c.start_eight.new.listings in
    let inputs = c.set_eight.new.sets in
    let back = written-back listings c.start_eight.auto.listings c.as_mut_slice-2.ensures.value c.as_mut_slice-2.ensures.len in
    let inputs_back = written-back inputs c.set_eight.auto.sets c.as_mut_slice.ensures.value c.as_mut_slice.ensures.len in
    let loaded : (lane : ℕ) → lane / 8 ≡ c.args.eight → has_lane c.put_eight.new.set lane ≡ true = λ lane same. c.put_eight.ensures.here lane same ∙ all-bits (lane % 8) (omega arith) in
    let other_inputs : (other : ℕ) → other < 512 → other / 8 ≢ c.args.eight → lane_input inputs other ≡ lane_input fields.inputs.items other = λ other below differ.
    same-input c.as_mut_slice.result.now inputs other c.set_eight.auto.sets (λ i. c.set_eight.ensures.others i other below differ) ∙ ap (λ (sets : List (List ℕ)). lane_input sets other) c.as_mut_slice.ensures.value in
    let others_listed : (other : ℕ) → other < 512 → other / 8 ≢ c.args.eight → lane_listed listings other ≡ lane_listed fields.listings.items other = λ other below differ.
    c.start_eight.ensures.others other below differ ∙ ap (λ (all : List Listing). lane_listed all other) c.as_mut_slice-2.ensures.value in
    record {
      fresh = subst (λ (all : List Listing). (lane : ℕ) → lane < 512 → has_lane c.put_eight.new.set lane ≡ false → lane_listed all lane ≡ replicate (length all) None) (sym back.are)
          (subst (λ (n : ℕ). (lane : ℕ) → lane < 512 → has_lane c.put_eight.new.set lane ≡ false → lane_listed listings lane ≡ replicate n None) (sym back.long)
          (fresh-eight fields.loaded c.put_eight.new.set fields.inputs.items inputs fields.listings.items listings c.args.eight c.requires.eight loaded c.put_eight.ensures.others other_inputs others_listed
          (length fields.listings.items) c.self.invariant.fresh));
      no_gates = λ none other gate below past within.
          let beyond : length fields.inputs.items ≤ gate = omega (arith, past, ap (length {A = List ℕ}) inputs_back.are, inputs_back.long) in
          let inside : gate < length fields.listings.items = omega (arith, within, ap (length {A = Listing}) back.are, back.long) in
          ap (λ (all : List Listing). get_or (lane_listed all other) gate None) back.are
          ∙ unlisted-eight fields.loaded c.put_eight.new.set fields.inputs.items inputs fields.listings.items listings c.args.eight c.requires.eight loaded c.put_eight.ensures.others other_inputs others_listed
          gate (λ lane same.
          let first = take c.len-inputs.result (drop (8 * c.args.eight * (2 * c.len-inputs.result) + (lane % 8) * (2 * c.len-inputs.result)) c.args.bits.now) in
          ap (λ (list : List (Option Bool)). get_or list gate None) (c.start_eight.ensures.here lane same)
          ∙ none-past (length c.as_mut_slice-2.result.now) first gate (omega (arith, beyond, length-take c.len-inputs.result (drop (8 * c.args.eight * (2 * c.len-inputs.result) + (lane % 8) * (2 * c.len-inputs.result)) c.args.bits.now), c.len-inputs.ensures)) (omega (arith, inside, ap (length {A = Listing}) c.as_mut_slice-2.ensures.value)))
          (λ one few. c.self.invariant.no_gates none one gate few beyond inside) other below;
    }

pub returns-clause-here : goal.returns-clause-here
returns-clause-here c lane same =
    let fields = c.self.inside in
    let n = c.len-inputs.result in
    let bits = c.args.bits.now in
    let listings = c.start_eight.new.listings in
    let inputs = c.set_eight.new.sets in
    let back = written-back listings c.start_eight.auto.listings c.as_mut_slice-2.ensures.value c.as_mut_slice-2.ensures.len in
    let inputs_back = written-back inputs c.set_eight.auto.sets c.as_mut_slice.ensures.value c.as_mut_slice.ensures.len in
    let size : n ≡ length fields.inputs.items = search (rules, c.len-inputs.ensures) in
    let begins = lane-begins c.args.eight lane (2 * n) same in
    let loaded : (lane : ℕ) → lane / 8 ≡ c.args.eight → has_lane c.put_eight.new.set lane ≡ true = λ lane same. c.put_eight.ensures.here lane same ∙ all-bits (lane % 8) (omega arith) in
    let other_inputs : (other : ℕ) → other < 512 → other / 8 ≢ c.args.eight → lane_input inputs other ≡ lane_input fields.inputs.items other = λ other below differ.
    same-input c.as_mut_slice.result.now inputs other c.set_eight.auto.sets (λ i. c.set_eight.ensures.others i other below differ) ∙ ap (λ (sets : List (List ℕ)). lane_input sets other) c.as_mut_slice.ensures.value in
    let others_listed : (other : ℕ) → other < 512 → other / 8 ≢ c.args.eight → lane_listed listings other ≡ lane_listed fields.listings.items other = λ other below differ.
    c.start_eight.ensures.others other below differ ∙ ap (λ (all : List Listing). lane_listed all other) c.as_mut_slice-2.ensures.value in
    let long : length inputs ≡ n = c.set_eight.auto.sets ∙ (ap (length {A = List ℕ}) c.as_mut_slice.ensures.value ∙ sym size) in
    let room : 8 * (c.args.eight + 1) * (2 * n) ≤ length bits = subst (λ (k : ℕ). 8 * (c.args.eight + 1) * (2 * k) ≤ length bits) (ap (λ (s : LaneLoads). s.inputs) (sym c.self.view_is) ∙ sym size) c.requires.bits in
    let input : lane_input inputs lane ≡ take n (drop n (drop (lane * (2 * n)) bits)) = eight-input inputs c.args.eight lane n bits long same room (λ i inside. c.set_eight.ensures.here i lane (omega (arith, inside, long, c.set_eight.auto.sets)) same) in
    let listed : lane_listed listings lane ≡ listed_with (length fields.listings.items) (take n (drop (lane * (2 * n)) bits)) [] =
    c.start_eight.ensures.here lane same ∙ (ap (λ (k : ℕ). listed_with (length c.as_mut_slice-2.result.now) (take n (drop k bits)) []) begins
    ∙ ap (λ (k : ℕ). listed_with k (take n (drop (lane * (2 * n)) bits)) []) (ap (length {A = Listing}) c.as_mut_slice-2.ensures.value)) in
    ap (λ (sets : List (List ℕ)). slice_get (lane_loads c.put_eight.new.set sets (take fields.listings.len (listings ++ drop (length listings) fields.listings.items))) lane) inputs_back.are
    ∙ (ap (λ (all : List Listing). slice_get (lane_loads c.put_eight.new.set inputs all) lane) back.are
    ∙ (eight-loaded fields.loaded c.put_eight.new.set fields.inputs.items inputs fields.listings.items listings c.args.eight c.requires.eight loaded c.put_eight.ensures.others other_inputs others_listed lane _ _ same input listed
    ∙ (ap (λ (k : ℕ). Some (Some (loaded_from (length fields.listings.items) k [] (drop (lane * (2 * k)) bits)))) size
    ∙ ap (λ (s : LaneLoads). Some (Some (loaded_from s.nodes s.inputs [] (drop (lane * (2 * s.inputs)) bits)))) c.self.view_is)))

pub returns-clause-others : goal.returns-clause-others
returns-clause-others c other below differ =
    let fields = c.self.inside in
    let listings = c.start_eight.new.listings in
    let inputs = c.set_eight.new.sets in
    let back = written-back listings c.start_eight.auto.listings c.as_mut_slice-2.ensures.value c.as_mut_slice-2.ensures.len in
    let inputs_back = written-back inputs c.set_eight.auto.sets c.as_mut_slice.ensures.value c.as_mut_slice.ensures.len in
    let loaded : (lane : ℕ) → lane / 8 ≡ c.args.eight → has_lane c.put_eight.new.set lane ≡ true = λ lane same. c.put_eight.ensures.here lane same ∙ all-bits (lane % 8) (omega arith) in
    let other_inputs : (other : ℕ) → other < 512 → other / 8 ≢ c.args.eight → lane_input inputs other ≡ lane_input fields.inputs.items other = λ other below differ.
    same-input c.as_mut_slice.result.now inputs other c.set_eight.auto.sets (λ i. c.set_eight.ensures.others i other below differ) ∙ ap (λ (sets : List (List ℕ)). lane_input sets other) c.as_mut_slice.ensures.value in
    let others_listed : (other : ℕ) → other < 512 → other / 8 ≢ c.args.eight → lane_listed listings other ≡ lane_listed fields.listings.items other = λ other below differ.
    c.start_eight.ensures.others other below differ ∙ ap (λ (all : List Listing). lane_listed all other) c.as_mut_slice-2.ensures.value in
    ap (λ (sets : List (List ℕ)). slice_get (lane_loads c.put_eight.new.set sets (take fields.listings.len (listings ++ drop (length listings) fields.listings.items))) other) inputs_back.are
    ∙ (ap (λ (all : List Listing). slice_get (lane_loads c.put_eight.new.set inputs all) other) back.are
    ∙ (others-loaded fields.loaded c.put_eight.new.set fields.inputs.items inputs fields.listings.items listings c.args.eight c.requires.eight loaded c.put_eight.ensures.others other_inputs others_listed other below differ
    ∙ ap (λ (s : LaneLoads). slice_get s.lanes other) c.self.view_is))
