-- What the faults that were noted say of the listed values of a lane.
use Rattle.std.proofs.Common.{◌≡◌, ◌≢◌, ℕ, ◌-◌, ◌<◌, min, max, Bool, true, false, Option, Some, None, List, [], length, get_or, slice_get, refl, sym, ap, ◌∙◌, subst, arith}
use Rattle.std.proofs.lemmas.List.{length-map, get_or-map}
use Rattle.std.proofs.lemmas.Option.{slice_get-get_or}
use Rattle.hz_core.specs.declared.tri.Tri.{Tri}
use Rattle.hz_core.specs.declared.tri.Tri.TheVariants.{Zero, One, Unknown}
use Rattle.hz_core.specs.Ternary.{tri_of}
use Rattle.hz_core.specs.Netlist.{Netlist, IsCircuit, IsWhole, IsGateNumber}
use Rattle.hz_net.specs.Network.{value_at, bit_at}
use Rattle.hz_net.specs.Starts.{IsLeastUnstable}
use Rattle.hz_plane.specs.declared.listing.Listing.{Listing}
use Rattle.hz_plane.specs.declared.pair.Pair.{Pair}
use Rattle.hz_plane.specs.declared.stage.LaneFault.{LaneFault}
use Rattle.hz_plane.specs.declared.stage.LaneFault.TheVariants.{Open, Unstable}
use Rattle.hz_plane.specs.declared.rule.Rule.TheVariants.{Narrow}
use Rattle.hz_plane.specs.Bits.{ArePlanes, HasValue, lane_bit}
use Rattle.hz_plane.specs.Pairs.{pair_at, and_words, or_words}
use Rattle.hz_plane.specs.Steps.{gate_excitation, gate_pair, AreAllPlanes, HasLane}
use Rattle.hz_plane.specs.Lanes.{AreForcedNodes}
use Rattle.hz_plane.specs.Loads.{listed_in, lane_listed}
use Rattle.hz_plane.specs.Faults.{conflict_words, IsUnknownIn, IsConflictIn, IsOpenFault, AreStableBelow, IsUnstableFault}
use Rattle.hz_plane.specs.View.{IsLaneFault}
use Rattle.hz_plane.proofs.Bits.{plane-and, plane-or, lane-and, lane-or, lane-not}
use Rattle.hz_plane.proofs.LaneSteps.{planes-of_gate, value-of_gate}
use Rattle.hz_plane.proofs.FaultLemmas.{least-open, start_of, known-start, completed, excited-start, unlisted-stable, accepted}

-- the lanes in which two values have nothing in common
module _ (pair excited : Pair) (lane : ℕ) (inside : lane < 512) (one : ArePlanes pair) (two : ArePlanes excited) where
  conflict-bit : lane_bit (conflict_words pair excited) lane ≡ 1 - max (min (lane_bit pair.zero lane) (lane_bit excited.zero lane)) (min (lane_bit pair.one lane) (lane_bit excited.one lane))
  conflict-bit =
      let low = plane-and pair.zero excited.zero one.zero_is two.zero_is in
      let high = plane-and pair.one excited.one one.one_is two.one_is in
      lane-not lane inside (or_words (and_words pair.zero excited.zero) (and_words pair.one excited.one)) (plane-or _ _ low high)
      ∙ ap (λ (n : ℕ). 1 - n) (lane-or lane inside _ _ low high
      ∙ (ap (λ (n : ℕ). max n (lane_bit (and_words pair.one excited.one) lane)) (lane-and lane inside _ _ one.zero_is two.zero_is)
      ∙ ap (max (min (lane_bit pair.zero lane) (lane_bit excited.zero lane))) (lane-and lane inside _ _ one.one_is two.one_is)))

  -- a known value and a known excitation that have no conflict are the same
  pub no-conflict : (value other : Tri) → HasValue pair lane value → HasValue excited lane other → value ≢ Unknown → other ≢ Unknown → (lane_bit (conflict_words pair excited) lane ≡ 1 → ⊥) → other ≡ value
  no-conflict Zero Zero has has' a b none = refl
  no-conflict Zero One has has' a b none = absurd (none (conflict-bit ∙ omega (arith, has.can_be_zero, has.can_be_one, has'.can_be_zero, has'.can_be_one)))
  no-conflict One Zero has has' a b none = absurd (none (conflict-bit ∙ omega (arith, has.can_be_zero, has.can_be_one, has'.can_be_zero, has'.can_be_one)))
  no-conflict One One has has' a b none = refl
  no-conflict Unknown other has has' a b none = absurd (a refl)
  no-conflict value Unknown has has' a b none = absurd (b refl)

  pub conflict-differs : (value other : Tri) → HasValue pair lane value → HasValue excited lane other → lane_bit (conflict_words pair excited) lane ≡ 1 → other ≢ value
  conflict-differs Zero Zero has has' is = λ e. absurd (omega (arith, conflict-bit, is, has.can_be_zero, has'.can_be_zero))
  conflict-differs One One has has' is = λ e. absurd (omega (arith, conflict-bit, is, has.can_be_one, has'.can_be_one))
  conflict-differs Unknown Unknown has has' is = λ e. absurd (omega (arith, conflict-bit, is, has.can_be_one, has'.can_be_one))
  conflict-differs Zero One has has' is = λ e. (cc)
  conflict-differs Zero Unknown has has' is = λ e. (cc)
  conflict-differs One Zero has has' is = λ e. (cc)
  conflict-differs One Unknown has has' is = λ e. (cc)
  conflict-differs Unknown Zero has has' is = λ e. (cc)
  conflict-differs Unknown One has has' is = λ e. (cc)

pub value-unknown : (pair : Pair) (lane : ℕ) (value : Tri) → HasValue pair lane value → (lane_bit pair.zero lane ≡ 1) × (lane_bit pair.one lane ≡ 1) → value ≡ Unknown
value-unknown pair lane Zero has both = absurd (omega (arith, has.can_be_one, both.1))
value-unknown pair lane One has both = absurd (omega (arith, has.can_be_zero, both.0))
value-unknown pair lane Unknown has both = refl

pub unknown-value : (pair : Pair) (lane : ℕ) (value : Tri) → HasValue pair lane value → value ≡ Unknown → (lane_bit pair.zero lane ≡ 1) × (lane_bit pair.one lane ≡ 1)
unknown-value pair lane Zero has e = cc
unknown-value pair lane One has e = cc
unknown-value pair lane Unknown has e = (has.can_be_zero, has.can_be_one)

known-bit : (bit : Bool) → tri_of bit ≢ Unknown
known-bit false = λ e. (cc)
known-bit true = λ e. (cc)

bit-differs : (bit other : Bool) → tri_of other ≢ tri_of bit → bit ≢ other
bit-differs bit other differ = λ e. differ (ap tri_of (sym e))

tri-same : (bit other : Bool) → tri_of bit ≡ tri_of other → bit ≡ other
tri-same false false e = refl
tri-same false true e = cc
tri-same true false e = cc
tri-same true true e = refl

module _
    (netlist : Netlist) (circuit : IsCircuit netlist) (whole : IsWhole netlist) (listings : List Listing) (values : List Pair) (lane : ℕ) (last : List Tri) (inside : lane < 512)
    (count : length values ≡ length netlist.names) (size : length listings ≡ length netlist.names) (planes : AreAllPlanes values) (has : HasLane values lane last)
    (forced : AreForcedNodes netlist (lane_listed listings lane) last) where
  abbrev lists : List (Option Bool)
  lists = lane_listed listings lane

  -- a node is X where both of its planes have the lane
  is-unknown : (node : ℕ) → node < length netlist.names → IsUnknownIn values lane node → value_at last node ≡ Unknown
  is-unknown node below both = value-unknown (pair_at values node) lane (value_at last node) (has.each node (omega (arith, below, count))) both

  is-known : (node : ℕ) → node < length netlist.names → (IsUnknownIn values lane node → ⊥) → value_at last node ≢ Unknown
  is-known node below none = λ e. none (unknown-value (pair_at values node) lane (value_at last node) (has.each node (omega (arith, below, count))) e)

  module _ (none : (node : ℕ) → node < length netlist.names → value_at last node ≢ Unknown) where
    own : (gate : ℕ) → IsGateNumber netlist gate → HasValue (pair_at values gate) lane (value_at last gate)
    own gate is_gate = has.each gate (omega (arith, is_gate.1, count))

    own-planes : (gate : ℕ) → IsGateNumber netlist gate → ArePlanes (pair_at values gate)
    own-planes gate is_gate = planes.each gate (omega (arith, is_gate.1, count))

    known-excitation : (gate : ℕ) → IsGateNumber netlist gate → gate_excitation netlist last gate ≢ Unknown
    known-excitation gate is_gate = λ e. known-bit _ (sym (excited-start netlist circuit lists last forced none gate is_gate) ∙ e)

    stable-by : (gate : ℕ) → IsGateNumber netlist gate → (IsConflictIn netlist values lane gate → ⊥) → gate_excitation netlist last gate ≡ value_at last gate
    stable-by gate is_gate free =
        no-conflict (pair_at values gate) (gate_pair netlist values gate) lane inside (own-planes gate is_gate) (planes-of_gate netlist circuit whole Narrow values gate count is_gate planes) (value_at last gate) (gate_excitation netlist last gate) (own gate is_gate)
        (value-of_gate netlist circuit whole Narrow values lane last gate inside count is_gate planes has) (none gate is_gate.1) (known-excitation gate is_gate) free

    differs-by : (gate : ℕ) → IsGateNumber netlist gate → IsConflictIn netlist values lane gate → gate_excitation netlist last gate ≢ value_at last gate
    differs-by gate is_gate conflict =
        conflict-differs (pair_at values gate) (gate_pair netlist values gate) lane inside (own-planes gate is_gate) (planes-of_gate netlist circuit whole Narrow values gate count is_gate planes) (value_at last gate) (gate_excitation netlist last gate) (own gate is_gate)
        (value-of_gate netlist circuit whole Narrow values lane last gate inside count is_gate planes has) conflict

    -- below an end every gate is stable, listed or not
    stable-below : (end : ℕ) → AreStableBelow netlist listings values lane end → (gate : ℕ) → IsGateNumber netlist gate → gate < end → gate_excitation netlist last gate ≡ value_at last gate
    stable-below end stable gate is_gate below = by (listed_in (get_or listings gate (record { zeros = []; ones = [] })) lane) refl
      where
        within : gate < length listings
        within = omega (arith, is_gate.1, size)

        at : slice_get lists gate ≡ Some (listed_in (get_or listings gate (record { zeros = []; ones = [] })) lane)
        at = slice_get-get_or lists gate None (omega (arith, within, length-map listings (λ (listing : Listing). listed_in listing lane))) ∙ ap (λ (o : Option Bool). Some o) (get_or-map (λ (listing : Listing). listed_in listing lane) listings gate (record { zeros = []; ones = [] }) None within)

        by : (listed : Option Bool) → listed_in (get_or listings gate (record { zeros = []; ones = [] })) lane ≡ listed → gate_excitation netlist last gate ≡ value_at last gate
        by None is = unlisted-stable netlist circuit lists last forced none gate is_gate (at ∙ ap (λ (o : Option Bool). Some o) is)
        by (Some bit) is = stable-by gate is_gate (stable gate is_gate below (λ e. (let wrong : Some bit ≡ None = sym is ∙ e in cc)))

    least-unstable : (gate : ℕ) → IsGateNumber netlist gate → IsConflictIn netlist values lane gate → AreStableBelow netlist listings values lane gate → IsLeastUnstable netlist lists gate
    least-unstable gate is_gate conflict stable =
        let start = start_of netlist circuit lists last forced in
        let at : (node : ℕ) → IsGateNumber netlist node → value_at last node ≡ tri_of (bit_at start node) = λ node is. known-start netlist circuit lists last forced none node is.1 in
        record {
          state = start;
          completed = completed netlist circuit lists last forced none;
          is_gate = is_gate;
          is_unstable = bit-differs _ _ (λ e. differs-by gate is_gate conflict (excited-start netlist circuit lists last forced none gate is_gate ∙ (e ∙ sym (at gate is_gate))));
          least = λ other from below. tri-same _ _ (sym (at other (from, omega (arith, below, is_gate.1))) ∙ (sym (stable-below gate stable other (from, omega (arith, below, is_gate.1)) below) ∙ excited-start netlist circuit lists last forced none other (from, omega (arith, below, is_gate.1))));
        }

    unstable-fault : (fault : Option LaneFault) → IsUnstableFault netlist listings values lane (length netlist.names) None fault → IsLaneFault netlist lists fault
    unstable-fault None stable = (start_of netlist circuit lists last forced, accepted netlist circuit lists last forced none (λ gate is_gate. stable-below (length netlist.names) stable gate is_gate is_gate.1))
    unstable-fault (Some (Open gate)) wrong = absurd wrong
    unstable-fault (Some (Unstable gate)) is = least-unstable gate is.0 is.2 is.3

  -- the fault of a lane
  pub lane-fault : (first fault : Option LaneFault) → IsOpenFault values lane (length values) first → IsUnstableFault netlist listings values lane (length netlist.names) first fault → IsLaneFault netlist lists fault
  lane-fault None fault opens unstable = unstable-fault (λ node below. is-known node below (opens node (omega (arith, below, count)))) fault unstable
  lane-fault (Some (Open gate)) fault opens is =
      subst (IsLaneFault netlist lists) (sym is)
      (let below : gate < length netlist.names = omega (arith, opens.0, count) in
      least-open netlist circuit lists last forced gate below (is-unknown gate below opens.1) (λ node less. is-known node (omega (arith, less, below)) (opens.2 node less)))
  lane-fault (Some (Unstable gate)) fault opens is = absurd opens
