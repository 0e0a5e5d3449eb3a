-- What gates without feedback, each evaluated once, hold in a lane: the forced start, and the result of Algorithm B.
use Rattle.std.proofs.Common.{◌≡◌, ℕ, zero, suc, ◌+◌, ◌<◌, ◌≤◌, Bool, true, false, Option, Some, List, [], ◌∷◌, length, map, get_or, slice_get, sym, ap, ◌∙◌, subst, arith, inl, inr}
use Rattle.std.specs.List.{AllByRecursion}
use Rattle.std.proofs.lemmas.Bool.{cases_lt}
use Rattle.std.proofs.lemmas.List.{length-map, get_or-map, get_or_default}
use Rattle.std.proofs.lemmas.List.Elements.{recursion_from_All}
use Rattle.hz_core.specs.declared.tri.Tri.{Tri}
use Rattle.hz_core.specs.declared.tri.Tri.TheVariants.{Zero, Unknown}
use Rattle.hz_core.specs.Ternary.{tri_of}
use Rattle.hz_core.specs.Extension.{extension}
use Rattle.hz_core.specs.Netlist.{Netlist, IsCircuit, IsWhole, IsGateNumber, gate_at}
use Rattle.hz_core.proofs.CircuitLemmas.{sources-at_gate}
use Rattle.hz_net.specs.Network.{network_of, excitation3, value_at, bit_at}
use Rattle.hz_net.specs.Passes.{excitations, algorithm_b, AreRounds}
use Rattle.hz_net.specs.Starts.{IsForced}
use Rattle.hz_net.specs.Variables.{first_wire, at_wires}
use Rattle.hz_net.proofs.Derivations.{AreForced, forced-listed, forced-extension}
use Rattle.hz_net.proofs.Excitations.{at-excitations}
use Rattle.hz_net.proofs.Places.{length-network_of, first_wire-bound}
use Rattle.hz_net.proofs.Sequences.{length-algorithm_b}
use Rattle.hz_net.proofs.Wires.{length-at_wires, get_or-at_wires}
use Rattle.hz_plane.specs.declared.pair.Pair.{Pair}
use Rattle.hz_plane.specs.declared.rule.Rule.TheVariants.{Narrow}
use Rattle.hz_plane.specs.Bits.{ArePlanes, HasValue, has_lane}
use Rattle.hz_plane.specs.Pairs.{no_pair, pair_at}
use Rattle.hz_plane.specs.Steps.{AreAllPlanes, HasLane, gate_excitation, all_values}
use Rattle.hz_plane.specs.Sweeps.{IsOrder, IsBack}
use Rattle.hz_plane.specs.Lanes.{ListsAllInputs, ListsNoGate, AreForcedNodes, AreAllOf}
use Rattle.hz_plane.specs.Forward.{IsForward, AreEvaluated}
use Rattle.hz_plane.proofs.Bits.{one_value}
use Rattle.hz_plane.proofs.LaneSets.{lane_bit-lt}
use Rattle.hz_plane.proofs.LaneSteps.{value-of_gate}
use Rattle.hz_plane.proofs.Wholes.{same-bit, same-values, source_of, source-inside, length-all_values, at-node, at-wire, excites-input, excites-gate, excites-wire}
use Rattle.hz_plane.proofs.SpreadSteps.{pin-source}
use Rattle.hz_plane.proofs.SettleSteps.{fixed-result}
use Rattle.hz_plane.proofs.PassLanes.{known-planes, known-value}
use Rattle.hz_plane.proofs.Held.{set-bit}
use Rattle.hz_plane.proofs.Forwards.{source-before}

-- the values of a lane, each of which is known
abbrev pub known_values : List Pair → ℕ → List Tri
known_values planes lane = map (λ pair. tri_of (has_lane pair.one lane)) planes

never-unknown : (bit : Bool) → tri_of bit ≡ Unknown → ⊥
never-unknown false e = cc
never-unknown true e = cc

module _ (netlist : Netlist) (circuit : IsCircuit netlist) (whole : IsWhole netlist) (planes : List Pair) (long : length planes ≡ length netlist.names) (are : AreEvaluated netlist planes) where
  pub evaluated-planes : AreAllPlanes planes
  evaluated-planes = record {
    each = λ node few. (let known = are.known node (omega (arith, few, long)) in subst ArePlanes (sym known.known) (known-planes (pair_at planes node).one known.plane));
  }

  module _ (lane : ℕ) (inside : lane < 512) where
    values : List Tri
    values = known_values planes lane

    at-known : (node : ℕ) → node < length netlist.names → value_at values node ≡ tri_of (has_lane (pair_at planes node).one lane)
    unfolding values
    at-known node few = get_or-map (λ (pair : Pair). tri_of (has_lane pair.one lane)) planes node no_pair Zero (omega (arith, few, long))

    values-long : length values ≡ length netlist.names
    unfolding values
    values-long = length-map planes (λ (pair : Pair). tri_of (has_lane pair.one lane)) ∙ long

    has-values : HasLane planes lane values
    has-values = record {
      long = values-long ∙ sym long;
      each = λ node few.
          let node_few : node < length netlist.names = omega (arith, few, long) in
          let known = are.known node node_few in
          let ones = (pair_at planes node).one in
          subst (HasValue (pair_at planes node) lane) (sym (at-known node node_few))
          (subst (λ (p : Pair). HasValue p lane (tri_of (has_lane ones lane))) (sym known.known)
          (known-value ones lane (has_lane ones lane) inside known.plane (set-bit _ (lane_bit-lt ones lane))));
    }

    -- a gate's value is its excitation
    excited-values : (gate : ℕ) → IsGateNumber netlist gate → value_at values gate ≡ gate_excitation netlist values gate
    excited-values gate is_gate =
        one_value (pair_at planes gate) lane _ _ (has-values.each gate (omega (arith, is_gate.1, long)))
        (subst (λ (p : Pair). HasValue p lane (gate_excitation netlist values gate)) (sym (are.excited gate is_gate))
        (value-of_gate netlist circuit whole Narrow planes lane values gate inside long is_gate evaluated-planes has-values))

    module _ (order : List ℕ) (readers back : List (List ℕ)) (is_order : IsOrder netlist order readers) (is_back : IsBack netlist order back) (forward : IsForward order back) where
      -- what holds of the inputs, and of each gate if it holds of what the gate reads, holds of each node
      by-order : (P : ℕ → Type 0) → ((input : ℕ) → input < netlist.inputs → P input) → ((gate : ℕ) → IsGateNumber netlist gate → ((k d : ℕ) → k < length (gate_at netlist gate).sources → P (get_or (gate_at netlist gate).sources k d)) → P gate) → (node : ℕ) → node < length netlist.names → P node
      by-order P inputs gates node few = elim (cases_lt node netlist.inputs) [
        | inl input ↦ inputs node input
        | inr beyond ↦ (
            let there = is_order.every node (beyond, few) in
            subst P (get_or_default order there.0 0 node there.1 ∙ there.2) (below (length order) there.0 there.1 there.1)
            )
      ]
        where
          below : (end place : ℕ) → place < end → place < length order → P (get_or order place 0)
          below zero place early within = absurd (omega (arith, early))
          below (suc end) place early within =
              let gate = get_or order place 0 in
              let is_gate : IsGateNumber netlist gate = is_order.gates place 0 within in
              let sources = (gate_at netlist gate).sources in
              gates gate is_gate (λ k d pin.
              let source = get_or sources k d in
              let inside_node : source < length netlist.names = sources-at_gate netlist gate circuit is_gate k d pin in
              elim (cases_lt source netlist.inputs) [
                | inl input ↦ inputs source input
                | inr beyond ↦ (
                    let before = source-before netlist circuit order readers back is_order is_back forward place source within (k, pin, get_or_default sources k source d pin) (beyond, inside_node) in
                    subst P before.2 (below end before.0 (omega (arith, before.1, early)) (omega (arith, before.1, within)))
                    )
              ])

      pins-forced : (listed : List (Option Bool)) (sources : List ℕ) → AllByRecursion (λ source. (bit : Bool) → value_at values source ≡ tri_of bit → IsForced netlist listed source bit) sources → AreForced netlist listed sources (map (value_at values) sources)
      pins-forced listed [] all = tt
      pins-forced listed (source ∷ sources) all = (all.0, pins-forced listed sources all.1)

      -- the start that a lane lists, if it lists inputs alone
      pub forward-start : (listed : List (Option Bool)) → ListsAllInputs netlist listed → ListsNoGate netlist listed → ((node : ℕ) (bit : Bool) → node < netlist.inputs → slice_get listed node ≡ Some (Some bit) → HasValue (pair_at planes node) lane (tri_of bit)) → (last : List Tri) × HasLane planes lane last × AreForcedNodes netlist listed last
      forward-start listed inputs unlisted has = (
        values,
        has-values,
        record {
          count = values-long;
          forced = λ node bit few. by-order (λ n. (b : Bool) → value_at values n ≡ tri_of b → IsForced netlist listed n b)
              (λ input below b is.
              let given = inputs input below in
              let same : tri_of given.0 ≡ tri_of b = one_value (pair_at planes input) lane _ _ (has input given.0 below given.1) (has-values.each input (omega (arith, below, circuit.nodes, long))) ∙ is in
              forced-listed netlist listed input b (given.1 ∙ ap (λ (x : Bool). Some (Some x)) (same-bit given.0 b same)))
              (λ gate is_gate each b is.
              forced-extension netlist listed gate (map (value_at values) (gate_at netlist gate).sources) b is_gate (unlisted gate is_gate)
              (pins-forced listed (gate_at netlist gate).sources (recursion_from_All (λ source. (x : Bool) → value_at values source ≡ tri_of x → IsForced netlist listed source x) (gate_at netlist gate).sources each))
              (sym (excited-values gate is_gate) ∙ is))
              node few bit;
          opens = λ node few unknown. absurd (never-unknown (has_lane (pair_at planes node).one lane) (sym (at-known node few) ∙ unknown));
        },
      )

      -- a state that is its own excitations under the inputs of the lane
      module _ (input : List Bool) (has : (node : ℕ) → node < netlist.inputs → HasValue (pair_at planes node) lane (tri_of (bit_at input node))) (state : List Tri) (same : excitations (network_of netlist) input state ≡ state) (count : length state ≡ length (network_of netlist)) where
        excited-is : (i : ℕ) → i < length (network_of netlist) → excitation3 (network_of netlist) input state i ≡ value_at state i
        excited-is i few = sym (at-excitations (network_of netlist) input state i few) ∙ ap (λ (s : List Tri). value_at s i) same

        source-is : (wire : ℕ) → length netlist.names ≤ wire → wire < length (network_of netlist) → value_at state wire ≡ value_at state (source_of netlist circuit wire)
        source-is wire above few = sym (excited-is wire few) ∙ excites-wire netlist circuit input state wire above few

        gate-is : (gate : ℕ) → IsGateNumber netlist gate → ((k d : ℕ) → k < length (gate_at netlist gate).sources → value_at values (get_or (gate_at netlist gate).sources k d) ≡ value_at state (get_or (gate_at netlist gate).sources k d)) → value_at values gate ≡ value_at state gate
        gate-is gate is_gate each =
            let sources = (gate_at netlist gate).sources in
            let pins : length (at_wires netlist gate state) ≡ length sources = length-at_wires netlist gate state circuit is_gate count in
            let wires : at_wires netlist gate state ≡ map (value_at values) sources =
            same-values (at_wires netlist gate state) (map (value_at values) sources) (pins ∙ sym (length-map sources (value_at values))) (λ k few.
            let pin : k < length sources = omega (arith, few, pins) in
            let wire = first_wire netlist gate + k in
            let above : length netlist.names ≤ wire = omega arith in
            let fits : wire < length (network_of netlist) = omega (arith, pin, first_wire-bound netlist gate circuit is_gate, length-network_of netlist circuit) in
            get_or-at_wires netlist gate state k Zero pin ∙
            (source-is wire above fits ∙ (ap (value_at state) (pin-source netlist circuit gate k is_gate pin) ∙ (sym (each k 0 pin) ∙ sym (get_or-map (value_at values) sources k 0 Zero pin))))) in
            excited-values gate is_gate ∙ (ap (extension (gate_at netlist gate).kind) (sym wires) ∙ (sym (excites-gate netlist circuit input state gate is_gate) ∙ excited-is gate (omega (arith, is_gate.1, length-network_of netlist circuit))))

        node-is : (node : ℕ) → node < length netlist.names → value_at values node ≡ value_at state node
        node-is = by-order (λ n. value_at values n ≡ value_at state n)
            (λ node below.
            one_value (pair_at planes node) lane _ _ (has-values.each node (omega (arith, below, circuit.nodes, long))) (has node below)
            ∙ (sym (excites-input netlist circuit input state node below) ∙ excited-is node (omega (arith, below, circuit.nodes, length-network_of netlist circuit))))
            gate-is

        all-is : all_values netlist values ≡ state
        all-is =
            let all_long = length-all_values netlist circuit values values-long in
            same-values (all_values netlist values) state (all_long ∙ sym count) (λ i few.
            let fits : i < length (network_of netlist) = omega (arith, few, all_long) in
            elim (cases_lt i (length netlist.names)) [
              | inl node ↦ at-node netlist circuit values i values-long node ∙ node-is i node
              | inr wire ↦ at-wire netlist circuit values i values-long wire fits ∙ (node-is (source_of netlist circuit i) (source-inside netlist circuit i wire fits) ∙ sym (source-is i wire fits))
            ])

      -- the result of Algorithm B
      pub forward-settled : (input : List Bool) (first : List Tri) (rest : ℕ) → length first ≡ length (network_of netlist) → ((node : ℕ) → node < netlist.inputs → HasValue (pair_at planes node) lane (tri_of (bit_at input node))) → AreRounds (algorithm_b (network_of netlist) input first) rest → (last : List Tri) × HasLane planes lane last × AreAllOf netlist (algorithm_b (network_of netlist) input first rest) last
      forward-settled input first rest first_long has rounded =
          let state = algorithm_b (network_of netlist) input first rest in (
            values,
            has-values,
            record {
              count = values-long;
              whole = all-is input has state (fixed-result (network_of netlist) input first rest rounded) (length-algorithm_b (network_of netlist) input first first_long rest);
            },
          )
