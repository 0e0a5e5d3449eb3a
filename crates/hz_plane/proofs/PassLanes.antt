-- What the passes over planes make of a lane.
use Rattle.std.proofs.Common.{◌≡◌, ℕ, zero, suc, ◌-◌, ◌<◌, ◌≤◌, Bool, true, false, Option, Some, None, List, [], ◌∷◌, length, take, refl, sym, ap, ◌∙◌, subst, arith, inl, inr}
use Rattle.std.specs.List.{AllByRecursion, slice_index_or}
use Rattle.std.proofs.lemmas.Bool.{cases_lt}
use Rattle.std.proofs.lemmas.List.{length-map, length-take, get_or-take, get_or-map, length-set}
use Rattle.std.proofs.lemmas.Option.{slice_get-get_or}
use Rattle.hz_core.specs.declared.tri.Tri.{Tri}
use Rattle.hz_core.specs.declared.tri.Tri.TheVariants.{Zero}
use Rattle.hz_core.specs.Ternary.{tri_of, join_of, AllBelow}
use Rattle.hz_core.specs.Netlist.{Netlist, IsCircuit, IsWhole, IsGateNumber}
use Rattle.hz_net.specs.Network.{network_of, value_at, bit_at}
use Rattle.hz_net.specs.Passes.{excitations, algorithm_b, AreRounds}
use Rattle.hz_net.specs.TernaryStarts.{algorithm_a_from}
use Rattle.hz_net.specs.Starts.{IsCompletedStart}
use Rattle.hz_net.proofs.Places.{length-network_of, bit_at-expansion_of-wire}
use Rattle.hz_plane.specs.declared.pair.Pair.{Pair}
use Rattle.hz_plane.specs.declared.rule.Rule.{Rule}
use Rattle.hz_plane.specs.declared.rule.Rule.TheVariants.{Narrow, Widen}
use Rattle.hz_plane.specs.Bits.{IsPlane, ArePlanes, HasValue, lane_bit, bit_number}
use Rattle.hz_plane.specs.Pairs.{pair_at, known_pair, widened_pair}
use Rattle.hz_plane.specs.Steps.{step, steps, IsStill, IsStillPair, AreAllPlanes, HasLane, all_values}
use Rattle.hz_plane.specs.Sweeps.{Ran}
use Rattle.hz_plane.specs.declared.listing.Listing.{Listing}
use Rattle.hz_plane.specs.Loads.{listed_in, lane_listed}
use Rattle.hz_plane.specs.Lanes.{listed_value, listed_values, BeginsStart, BeginsSpread, BeginsSettle, ListsAllInputs, AreForcedNodes, HasInputs, AreInputPlanes, AreNodesOf, AreAllOf, with_inputs, second_of}
use Rattle.hz_plane.proofs.Bits.{plane-not, lane-not, value-widened}
use Rattle.hz_plane.proofs.LaneSteps.{planes-next, lane-steps, length-steps, still-lane}
use Rattle.hz_plane.proofs.Wholes.{source_of, source-inside, length-all_values, at-node, at-wire}
use Rattle.hz_plane.proofs.SpreadSteps.{HasWires, spread-result}
use Rattle.hz_plane.proofs.SettleSteps.{settle-result}
use Rattle.hz_plane.proofs.StartSteps.{start-result}

-- What a run makes of a lane: steps at some gates, after which each gate is still.
pub record LaneRan (rule : Rule) (netlist : Netlist) (planes : List Pair) (lane : ℕ) (first : List Tri) : Type 0 where
  pub gates : List ℕ
  pub all : AllByRecursion (IsGateNumber netlist) gates
  pub has : HasLane planes lane (steps rule netlist first gates)
  pub still : (gate : ℕ) → IsGateNumber netlist gate → IsStill rule netlist (steps rule netlist first gates) gate

pub lane-ran : (rule : Rule) (netlist : Netlist) (before after : List Pair) (lane : ℕ) (first : List Tri) → IsCircuit netlist → IsWhole netlist → lane < 512 → length before ≡ length netlist.names → AreAllPlanes before → AreAllPlanes after → Ran rule netlist before after → ((gate : ℕ) → IsGateNumber netlist gate → IsStillPair rule netlist after gate) → HasLane before lane first → LaneRan rule netlist after lane first
lane-ran rule netlist before after lane first circuit whole inside long are are' ran still has =
    let last = steps rule netlist first ran.gates in
    let long' : length after ≡ length netlist.names = ap (length {A = Pair}) ran.made ∙ (length-steps netlist circuit whole rule before ran.gates ∙ long) in
    let has' : HasLane after lane last =
    subst (λ (planes : List Pair). HasLane planes lane last) (sym ran.made) (lane-steps netlist circuit whole rule before lane first ran.gates inside long ran.all are has) in
    record {
      gates = ran.gates;
      all = ran.all;
      has = has';
      still = λ gate is_gate. still-lane netlist circuit whole rule after lane last gate inside long' is_gate are' has' (still gate is_gate);
    }

length-steps3 : (netlist : Netlist) (rule : Rule) (values : List Tri) (gates : List ℕ) → length (steps rule netlist values gates) ≡ length values
length-steps3 netlist rule values [] = refl
length-steps3 netlist rule values (gate ∷ gates) = length-steps3 netlist rule (step rule netlist values gate) gates ∙ length-set values gate _

-- the nodes of a state of all values
pub all-nodes : (netlist : Netlist) (circuit : IsCircuit netlist) (state values : List Tri) → AreAllOf netlist state values → AreNodesOf netlist state values
all-nodes netlist circuit state values are = record {
  count = are.count;
  each = λ node inside. sym (at-node netlist circuit values node are.count inside) ∙ ap (λ (s : List Tri). value_at s node) are.whole;
}

-- starts

pub fill-lane : (netlist : Netlist) (planes : List Pair) (lane : ℕ) (list : List (Option Bool)) (first : List Tri) → IsCircuit netlist → LaneRan Narrow netlist planes lane first → BeginsStart netlist list first → length list ≡ length netlist.names → ListsAllInputs netlist list → (last : List Tri) × HasLane planes lane last × AreForcedNodes netlist list last
fill-lane netlist planes lane list first circuit ran begins count inputs =
    (steps Narrow netlist first ran.gates, ran.has, start-result netlist circuit list count inputs first ran.gates begins ran.all ran.still)

-- the values that a lane lists are those with which the steps begin
pub begins-listed : (listings : List Listing) (lane : ℕ) (netlist : Netlist) → length listings ≡ length netlist.names → BeginsStart netlist (lane_listed listings lane) (listed_values listings lane)
begins-listed listings lane netlist size =
    let entries = lane_listed listings lane in
    let count : length entries ≡ length listings = length-map listings (λ (listing : Listing). listed_in listing lane) in
    record {
      count = length-map entries (λ (listed : Option Bool). listed_value (Some listed)) ∙ (count ∙ size);
      each = λ node inside.
          let few : node < length entries = omega (arith, inside, count, size) in
          get_or-map (λ (listed : Option Bool). listed_value (Some listed)) entries node None Zero few ∙ ap listed_value (sym (slice_get-get_or entries node None few));
    }

-- inputs

pub length-with_inputs : (put : Tri → Tri → Tri) (input : List Bool) (values : List Tri) → length (with_inputs put input values) ≡ length values
length-with_inputs put [] values = refl
length-with_inputs put (bit ∷ bits) [] = refl
length-with_inputs put (bit ∷ bits) (value ∷ values) = ap suc (length-with_inputs put bits values)

pub at-with_inputs : (put : Tri → Tri → Tri) (input : List Bool) (values : List Tri) (i : ℕ) → length input ≤ length values → i < length input → value_at (with_inputs put input values) i ≡ put (value_at values i) (tri_of (bit_at input i))
at-with_inputs put [] values i few inside = absurd (omega (arith, inside))
at-with_inputs put (bit ∷ bits) [] i few inside = absurd (omega (arith, few))
at-with_inputs put (bit ∷ bits) (value ∷ values) zero few inside = refl
at-with_inputs put (bit ∷ bits) (value ∷ values) (suc i) few inside = at-with_inputs put bits values i (omega (arith, few)) (omega (arith, inside))

pub past-with_inputs : (put : Tri → Tri → Tri) (input : List Bool) (values : List Tri) (i : ℕ) → length input ≤ i → value_at (with_inputs put input values) i ≡ value_at values i
past-with_inputs put [] values i past = refl
past-with_inputs put (bit ∷ bits) [] i past = refl
past-with_inputs put (bit ∷ bits) (value ∷ values) zero past = absurd (omega (arith, past))
past-with_inputs put (bit ∷ bits) (value ∷ values) (suc i) past = past-with_inputs put bits values i (omega (arith, past))

pub known-planes : (words : List ℕ) → IsPlane words → ArePlanes (known_pair words)
known-planes words is = record { zero_is = plane-not words is; one_is = is }

pub known-value : (words : List ℕ) (lane : ℕ) (bit : Bool) → lane < 512 → IsPlane words → lane_bit words lane ≡ bit_number bit → HasValue (known_pair words) lane (tri_of bit)
known-value words lane false inside is e = record { can_be_zero = lane-not lane inside words is ∙ ap (λ (n : ℕ). 1 - n) e; can_be_one = e }
known-value words lane true inside is e = record { can_be_zero = lane-not lane inside words is ∙ ap (λ (n : ℕ). 1 - n) e; can_be_one = e }

module _ (inputs : List (List ℕ)) (before after : List Pair) (few : length inputs ≤ length before) (long : length after ≡ length before) (planes : AreInputPlanes inputs) (are : AreAllPlanes before) (rest : (node : ℕ) → length inputs ≤ node → pair_at after node ≡ pair_at before node) where
  pub joined-planes : ((node : ℕ) → node < length inputs → pair_at after node ≡ widened_pair (pair_at before node) (known_pair (slice_index_or inputs node []))) → AreAllPlanes after
  joined-planes made = record {
    each = λ node inside. elim (cases_lt node (length inputs)) [
      | inl input ↦ subst ArePlanes (sym (made node input)) (planes-next Widen _ _ (are.each node (omega (arith, inside, long))) (known-planes _ (planes.each node input)))
      | inr past ↦ subst ArePlanes (sym (rest node past)) (are.each node (omega (arith, inside, long)))
    ];
  }

  pub put-planes : ((node : ℕ) → node < length inputs → pair_at after node ≡ known_pair (slice_index_or inputs node [])) → AreAllPlanes after
  put-planes made = record {
    each = λ node inside. elim (cases_lt node (length inputs)) [
      | inl input ↦ subst ArePlanes (sym (made node input)) (known-planes _ (planes.each node input))
      | inr past ↦ subst ArePlanes (sym (rest node past)) (are.each node (omega (arith, inside, long)))
    ];
  }

  module _ (lane : ℕ) (inside : lane < 512) (input : List Bool) (first : List Tri) (bits : HasInputs inputs lane input) (has : HasLane before lane first) where
    fits : length input ≤ length first
    fits = omega (arith, bits.long, few, has.long)

    pub joined-lane : ((node : ℕ) → node < length inputs → pair_at after node ≡ widened_pair (pair_at before node) (known_pair (slice_index_or inputs node []))) → HasLane after lane (with_inputs join_of input first)
    joined-lane made = record {
      long = length-with_inputs join_of input first ∙ (has.long ∙ sym long);
      each = λ node below. elim (cases_lt node (length inputs)) [
        | inl here ↦ subst (λ (p : Pair). HasValue p lane (value_at (with_inputs join_of input first) node)) (sym (made node here))
            (subst (HasValue _ lane) (sym (at-with_inputs join_of input first node fits (omega (arith, here, bits.long))))
            (value-widened lane inside _ _ _ _ (are.each node (omega (arith, below, long))) (known-planes _ (planes.each node here)) (has.each node (omega (arith, below, long))) (known-value _ lane _ inside (planes.each node here) (bits.each node here))))
        | inr past ↦ subst (λ (p : Pair). HasValue p lane (value_at (with_inputs join_of input first) node)) (sym (rest node past))
            (subst (HasValue _ lane) (sym (past-with_inputs join_of input first node (omega (arith, past, bits.long)))) (has.each node (omega (arith, below, long))))
      ];
    }

    pub put-lane : ((node : ℕ) → node < length inputs → pair_at after node ≡ known_pair (slice_index_or inputs node [])) → HasLane after lane (with_inputs second_of input first)
    put-lane made = record {
      long = length-with_inputs second_of input first ∙ (has.long ∙ sym long);
      each = λ node below. elim (cases_lt node (length inputs)) [
        | inl here ↦ subst (λ (p : Pair). HasValue p lane (value_at (with_inputs second_of input first) node)) (sym (made node here))
            (subst (HasValue _ lane) (sym (at-with_inputs second_of input first node fits (omega (arith, here, bits.long))))
            (known-value _ lane _ inside (planes.each node here) (bits.each node here)))
        | inr past ↦ subst (λ (p : Pair). HasValue p lane (value_at (with_inputs second_of input first) node)) (sym (rest node past))
            (subst (HasValue _ lane) (sym (past-with_inputs second_of input first node (omega (arith, past, bits.long)))) (has.each node (omega (arith, below, long))))
      ];
    }

-- each wire of a completed start has its source's bit
pub start-wires : (netlist : Netlist) (circuit : IsCircuit netlist) (listed : List (Option Bool)) (start : List Bool) → IsCompletedStart netlist listed start → (wire : ℕ) → length netlist.names ≤ wire → wire < length (network_of netlist) → bit_at start wire ≡ bit_at start (source_of netlist circuit wire)
unfolding source_of
start-wires netlist circuit listed start completed wire above inside =
    let nodes = take (length netlist.names) start in
    let long : length nodes ≡ length netlist.names = length-take (length netlist.names) start ∙ omega (arith, completed.long, length-network_of netlist circuit) in
    ap (λ (s : List Bool). bit_at s wire) completed.wires ∙
    (bit_at-expansion_of-wire netlist nodes wire long above (omega (arith, inside, length-network_of netlist circuit)) ∙
    get_or-take (length netlist.names) start (source_of netlist circuit wire) false (source-inside netlist circuit wire above inside))

-- a lane whose nodes have the values of a state, in which each wire has its source's
module _ (netlist : Netlist) (circuit : IsCircuit netlist) (input : List Bool) (fits : length input ≡ netlist.inputs) (first nodes : List Tri) (are : AreAllOf netlist first nodes) where
  whole-long : length first ≡ length (network_of netlist)
  whole-long = sym (ap (length {A = Tri}) are.whole) ∙ length-all_values netlist circuit nodes are.count

  each-node : (node : ℕ) → node < length netlist.names → value_at nodes node ≡ value_at first node
  each-node = (all-nodes netlist circuit first nodes are).each

  wires-of : HasWires netlist circuit first
  wires-of wire above inside =
      ap (λ (s : List Tri). value_at s wire) (sym are.whole)
      ∙ (at-wire netlist circuit nodes wire are.count above inside
      ∙ each-node (source_of netlist circuit wire) (source-inside netlist circuit wire above inside))

  begins-spread : BeginsSpread netlist input first (with_inputs join_of input nodes)
  begins-spread = record {
    long = length-with_inputs join_of input nodes ∙ are.count;
    inputs = λ node inside. at-with_inputs join_of input nodes node (omega (arith, fits, are.count, circuit.nodes)) (omega (arith, inside, fits))
        ∙ ap (λ (v : Tri). join_of v (tri_of (bit_at input node))) (each-node node (omega (arith, inside, circuit.nodes)));
    gates = λ node is_gate. past-with_inputs join_of input nodes node (omega (arith, is_gate.0, fits)) ∙ each-node node is_gate.1;
  }

  pub spread-lane : (planes : List Pair) (lane rounds : ℕ) → LaneRan Widen netlist planes lane (with_inputs join_of input nodes) → AreRounds (algorithm_a_from (network_of netlist) input first) rounds → (last : List Tri) × HasLane planes lane last × AreAllOf netlist (algorithm_a_from (network_of netlist) input first rounds) last
  spread-lane planes lane rounds ran rounded =
      let last = steps Widen netlist (with_inputs join_of input nodes) ran.gates in
      let is : all_values netlist last ≡ algorithm_a_from (network_of netlist) input first rounds =
      spread-result netlist circuit input first whole-long wires-of (with_inputs join_of input nodes) ran.gates rounds begins-spread ran.all ran.still rounded in
      let count : length last ≡ length netlist.names = length-steps3 netlist Widen (with_inputs join_of input nodes) ran.gates ∙ begins-spread.long in
      (last, ran.has, record { count = count; whole = is })

  begins-settle : BeginsSettle netlist input first (with_inputs second_of input nodes)
  begins-settle = record {
    count = length-with_inputs second_of input nodes ∙ are.count;
    inputs = λ node inside. at-with_inputs second_of input nodes node (omega (arith, fits, are.count, circuit.nodes)) (omega (arith, inside, fits));
    gates = λ node is_gate. past-with_inputs second_of input nodes node (omega (arith, is_gate.0, fits)) ∙ each-node node is_gate.1;
  }

  pub settle-lane : (planes : List Pair) (lane rest : ℕ) → AllBelow (excitations (network_of netlist) input first) first → LaneRan Narrow netlist planes lane (with_inputs second_of input nodes) → AreRounds (algorithm_b (network_of netlist) input first) rest → (last : List Tri) × HasLane planes lane last × AreAllOf netlist (algorithm_b (network_of netlist) input first rest) last
  settle-lane planes lane rest falls ran settled =
      let last = steps Narrow netlist (with_inputs second_of input nodes) ran.gates in
      let is : all_values netlist last ≡ algorithm_b (network_of netlist) input first rest =
      settle-result netlist circuit input first whole-long falls (with_inputs second_of input nodes) ran.gates rest begins-settle ran.all ran.still settled in
      let count : length last ≡ length netlist.names = length-steps3 netlist Narrow (with_inputs second_of input nodes) ran.gates ∙ begins-settle.count in
      (last, ran.has, record { count = count; whole = is })
