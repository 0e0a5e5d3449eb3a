-- What forced nodes say of a start: the least open node, the completed start, and which gates are stable in it.
use Rattle.std.proofs.Common.{◌≡◌, ◌≢◌, ℕ, zero, suc, ◌+◌, ◌-◌, ◌<◌, ◌≤◌, Bool, true, false, Option, Some, None, List, [], ◌∷◌, length, map, take, drop, slice_get, refl, sym, ap, ◌∙◌, subst, arith, inl, inr}
use Rattle.std.proofs.lemmas.Bool.{cases_lt}
use Rattle.std.proofs.lemmas.List.{length-map, get_or-map, take_at, get_or-take}
use Rattle.hz_core.specs.declared.tri.Tri.{Tri}
use Rattle.hz_core.specs.declared.tri.Tri.TheVariants.{Zero, One, Unknown}
use Rattle.hz_core.specs.Ternary.{tri_of}
use Rattle.hz_core.specs.Extension.{extension}
use Rattle.hz_core.specs.Netlist.{Netlist, IsCircuit, IsGateNumber, gate_at, variable_count}
use Rattle.hz_core.proofs.Extensions.{extension-map}
use Rattle.hz_net.specs.Network.{network_of, wires_of, value_at, bit_at, driver_value, excitation}
use Rattle.hz_net.specs.Variables.{expansion_of, at_wires, first_wire}
use Rattle.hz_net.specs.Starts.{IsForced, IsCompletedStart, IsAcceptedStart, IsLeastOpen}
use Rattle.hz_net.proofs.Places.{length-network_of, length-expansion_of, bit_at-expansion_of-node, bit_at-expansion_of-wire, driver_at-gate, driver_at-input, driver_at-wire}
use Rattle.hz_net.proofs.Derivations.{AreForced, forced_once, forced-extension}
use Rattle.hz_core.proofs.CircuitLemmas.{sources-at_gate}
use Rattle.std.specs.List.{AllByRecursion}
use Rattle.std.proofs.lemmas.List.Elements.{recursion_from_All}
use Rattle.hz_net.proofs.Ranks.{at-tri_of}
use Rattle.hz_plane.specs.Steps.{gate_excitation, all_values}
use Rattle.hz_plane.specs.Lanes.{AreForcedNodes}
use Rattle.hz_plane.proofs.Wholes.{same-bit, same-values, source_of, source-inside, length-all_values, at-node, at-wire, at-pins}

-- the bit of a known value
bit_of : Tri → Bool
bit_of Zero = false
bit_of One = true
bit_of Unknown = false

known-is : (value : Tri) → value ≢ Unknown → value ≡ tri_of (bit_of value)
unfolding bit_of
known-is Zero known = refl
known-is One known = refl
known-is Unknown known = absurd (known refl)

module _ (netlist : Netlist) (circuit : IsCircuit netlist) (listed : List (Option Bool)) (values : List Tri) (are : AreForcedNodes netlist listed values) where
  node-forced : (node : ℕ) → node < length netlist.names → value_at values node ≢ Unknown → IsForced netlist listed node (bit_of (value_at values node))
  node-forced node inside known = are.forced node (bit_of (value_at values node)) inside (known-is (value_at values node) known)

  pub least-open : (node : ℕ) → node < length netlist.names → value_at values node ≡ Unknown → ((other : ℕ) → other < node → value_at values other ≢ Unknown) → IsLeastOpen netlist listed node
  least-open node inside unknown least = record {
    is_node = inside;
    is_open = are.opens node inside unknown;
    least = λ other less. (bit_of (value_at values other), node-forced other (omega (arith, less, inside)) (least other less));
  }

  -- the start that known nodes make
  pub start_of : List Bool
  start_of = expansion_of netlist (map bit_of values)

  module _ (known : (node : ℕ) → node < length netlist.names → value_at values node ≢ Unknown) where
    bits-long : length (map bit_of values) ≡ length netlist.names
    bits-long = length-map values bit_of ∙ are.count

    at-start : (node : ℕ) → node < length netlist.names → bit_at start_of node ≡ bit_of (value_at values node)
    unfolding start_of
    at-start node inside = bit_at-expansion_of-node netlist (map bit_of values) node bits-long inside ∙ get_or-map bit_of values node Zero false (omega (arith, inside, are.count))

    pub completed : IsCompletedStart netlist listed start_of
    unfolding start_of
    completed = record {
      long = length-expansion_of netlist (map bit_of values) circuit bits-long;
      forced = λ node inside. subst (IsForced netlist listed node) (sym (at-start node inside)) (node-forced node inside (known node inside));
      wires = ap (expansion_of netlist) (sym (take_at (map bit_of values) (map (λ wire. bit_at (map bit_of values) wire.source) (wires_of netlist)) (length netlist.names) bits-long));
    }

    -- a node's value is its bit in the start
    pub known-start : (node : ℕ) → node < length netlist.names → value_at values node ≡ tri_of (bit_at start_of node)
    known-start node inside = known-is (value_at values node) (known node inside) ∙ ap tri_of (sym (at-start node inside))

    -- the values of all variables are those of the start
    values-are : all_values netlist values ≡ map tri_of start_of
    unfolding start_of source_of
    values-are =
        let long = length-all_values netlist circuit values are.count in
        same-values (all_values netlist values) (map tri_of start_of) (long ∙ sym (length-map start_of tri_of ∙ length-expansion_of netlist (map bit_of values) circuit bits-long)) (λ i few.
        let inside : i < length (network_of netlist) = omega (arith, few, long) in
        elim (cases_lt i (length netlist.names)) [
          | inl node ↦ at-node netlist circuit values i are.count node ∙ (known-is (value_at values i) (known i node) ∙ (ap tri_of (sym (at-start i node)) ∙ sym (at-tri_of start_of i)))
          | inr wire ↦ (
              let from = source_of netlist circuit i in
              let node : from < length netlist.names = source-inside netlist circuit i wire inside in
              at-wire netlist circuit values i are.count wire inside ∙ (known-is (value_at values from) (known from node)
              ∙ (ap tri_of (sym (bit_at-expansion_of-wire netlist (map bit_of values) i bits-long wire (omega (arith, inside, length-network_of netlist circuit)) ∙ get_or-map bit_of values from Zero false (omega (arith, node, are.count)))) ∙ sym (at-tri_of start_of i)))
              )
        ])

    -- the excitation of a gate in the start is that of its node's values
    pub excited-start : (gate : ℕ) → IsGateNumber netlist gate → gate_excitation netlist values gate ≡ tri_of (excitation (network_of netlist) (take netlist.inputs start_of) start_of gate)
    excited-start gate is_gate =
        let kind = (gate_at netlist gate).kind in
        sym (ap (extension kind) (at-pins netlist circuit values gate are.count is_gate))
        ∙ (ap (λ (vs : List Tri). extension kind (at_wires netlist gate vs)) values-are
        ∙ (ap (extension kind) (at-known start_of (first_wire netlist gate) (length (gate_at netlist gate).sources))
        ∙ (extension-map kind (at_wires netlist gate start_of)
        ∙ ap tri_of (sym (ap (driver_value (take netlist.inputs start_of) start_of) (driver_at-gate netlist gate circuit is_gate))))))
      where
        take-known : (count : ℕ) (bits : List Bool) → take count (map tri_of bits) ≡ map tri_of (take count bits)
        take-known zero bits = refl
        take-known (suc count) [] = refl
        take-known (suc count) (bit ∷ bits) = ap (λ (list : List Tri). tri_of bit ∷ list) (take-known count bits)

        drop-known : (count : ℕ) (bits : List Bool) → drop count (map tri_of bits) ≡ map tri_of (drop count bits)
        drop-known zero bits = refl
        drop-known (suc count) [] = refl
        drop-known (suc count) (bit ∷ bits) = drop-known count bits

        at-known : (bits : List Bool) (first pins : ℕ) → take (first + pins - first) (drop first (map tri_of bits)) ≡ map tri_of (take (first + pins - first) (drop first bits))
        at-known bits first pins = ap (take (first + pins - first)) (drop-known first bits) ∙ take-known (first + pins - first) (drop first bits)

    pins-forced : (sources : List ℕ) → AllByRecursion (λ source. source < length netlist.names) sources → AreForced netlist listed sources (map (value_at values) sources)
    pins-forced [] all = tt
    pins-forced (source ∷ sources) all = (λ bit is. are.forced source bit all.0 is, pins-forced sources all.1)

    -- a gate that is not listed has its excitation
    pub unlisted-stable : (gate : ℕ) → IsGateNumber netlist gate → slice_get listed gate ≡ Some None → gate_excitation netlist values gate ≡ value_at values gate
    unlisted-stable gate is_gate unlisted =
        let bit = excitation (network_of netlist) (take netlist.inputs start_of) start_of gate in
        let excited : gate_excitation netlist values gate ≡ tri_of bit = excited-start gate is_gate in
        let forced : IsForced netlist listed gate bit =
        forced-extension netlist listed gate (map (value_at values) (gate_at netlist gate).sources) bit is_gate unlisted
        (pins-forced (gate_at netlist gate).sources (recursion_from_All (λ source. source < length netlist.names) (gate_at netlist gate).sources (sources-at_gate netlist gate circuit is_gate))) excited in
        excited ∙ (ap tri_of (forced_once netlist listed gate bit (bit_of (value_at values gate)) forced (node-forced gate is_gate.1 (known gate is_gate.1))) ∙ sym (known-is (value_at values gate) (known gate is_gate.1)))

    wire-stable : (i : ℕ) → length netlist.names ≤ i → i < length (network_of netlist) → bit_at start_of i ≡ excitation (network_of netlist) (take netlist.inputs start_of) start_of i
    unfolding start_of source_of
    wire-stable i wire inside =
        let below : i < variable_count netlist = omega (arith, inside, length-network_of netlist circuit) in
        bit_at-expansion_of-wire netlist (map bit_of values) i bits-long wire below
        ∙ (sym (bit_at-expansion_of-node netlist (map bit_of values) (source_of netlist circuit i) bits-long (source-inside netlist circuit i wire inside))
        ∙ sym (ap (driver_value (take netlist.inputs start_of) start_of) (driver_at-wire netlist i circuit wire below)))

    -- where each gate has its excitation the start is accepted
    pub accepted : ((gate : ℕ) → IsGateNumber netlist gate → gate_excitation netlist values gate ≡ value_at values gate) → IsAcceptedStart netlist listed start_of
    accepted stable = record {
      completed = completed;
      stable = λ i inside. elim (cases_lt i netlist.inputs) [
        | inl input ↦ sym (ap (driver_value (take netlist.inputs start_of) start_of) (driver_at-input netlist i circuit input) ∙ get_or-take netlist.inputs start_of i false input)
        | inr beyond ↦ elim (cases_lt i (length netlist.names)) [
          | inl node ↦ same-bit _ _ (ap tri_of (at-start i node) ∙ (sym (known-is (value_at values i) (known i node)) ∙ (sym (stable i (beyond, node)) ∙ excited-start i (beyond, node))))
          | inr wire ↦ wire-stable i wire inside
        ]
      ];
    }
