-- A stable state of a circuit's network agrees with each gate of the circuit, node by node and name by name.
use Rattle.std.proofs.Common.{◌≡◌, ◌∙◌, refl, sym, ap, subst, ℕ, suc, ◌+◌, ◌-◌, ◌<◌, Bool, false, List, [], ◌∷◌, ◌++◌, length, map, get_or, arith, append_assoc, length-append}
use Rattle.std.specs.List.{IsDistinct, slice_index_or}
use Rattle.std.specs.Str.{bytes_eq}
use Rattle.std.proofs.Math.Seq.{get_or-append_seam}
use Rattle.std.proofs.lemmas.List.{ext_get_or, get_or-map, length-map}
use Rattle.std.proofs.lemmas.Simd.{map-map}
use Rattle.hz_core.specs.Gate.{gate_value}
use Rattle.hz_core.specs.Netlist.{Netlist, IsCircuit, IsGateNumber, gate_at, Gate as NetlistGate}
use Rattle.hz_netlist.specs.Circuit.{number_in, gates_of, all_inputs, circuit_of_elements}
use Rattle.hz_netlist.specs.Element.{Element, Input, Cut, Gate, Output, gate_names}
use Rattle.hz_blif.specs.Law.{node_value}
use Rattle.hz_netlist.proofs.Numbers.{number-placed}
use Rattle.hz_blif.proofs.TwoLevel.{AgreeWithAll}
use Rattle.hz_net.specs.Network.{network_of, bit_at, driver_value, IsStable}
use Rattle.hz_net.specs.Variables.{first_wire, at_wires}
use Rattle.hz_net.proofs.Places.{no_gate, driver_at-gate, driver_at-pin, length-network_of, first_wire-bound}
use Rattle.hz_net.proofs.Wires.{length-at_wires, get_or-at_wires}

module _ (netlist : Netlist) (input state : List Bool) (circuit : IsCircuit netlist)
    (long : length state ≡ length (network_of netlist)) (stable : IsStable (network_of netlist) input state) where
  -- a wire has its source's value
  stable-pin : (gate pin : ℕ) → IsGateNumber netlist gate → pin < length (gate_at netlist gate).sources
      → bit_at state (first_wire netlist gate + pin) ≡ bit_at state (get_or (gate_at netlist gate).sources pin 0)
  stable-pin gate pin is_gate few =
      stable (first_wire netlist gate + pin) (omega (arith, length-network_of netlist circuit, first_wire-bound netlist gate circuit is_gate))
      ∙ ap (driver_value input state) (driver_at-pin netlist gate pin circuit is_gate few)

  -- the wires of a gate have their sources' values
  stable-wires : (gate : ℕ) → IsGateNumber netlist gate → at_wires netlist gate state ≡ map (bit_at state) (gate_at netlist gate).sources
  stable-wires gate is_gate =
      let sources = (gate_at netlist gate).sources in
      let wires = length-at_wires netlist gate state circuit is_gate long in
      ext_get_or false (at_wires netlist gate state) (map (bit_at state) sources) (omega (arith, wires, length-map sources (bit_at state)))
      (λ pin few.
      let less : pin < length sources = omega (arith, few, wires) in
      get_or-at_wires netlist gate state pin false less ∙ stable-pin gate pin is_gate less ∙ sym (get_or-map (bit_at state) sources pin 0 false less))

  -- a gate has its gate function of its sources
  pub stable-gate : (gate : ℕ) → IsGateNumber netlist gate → bit_at state gate ≡ gate_value (gate_at netlist gate).kind (map (bit_at state) (gate_at netlist gate).sources)
  stable-gate gate is_gate =
      stable gate (omega (arith, is_gate.1, length-network_of netlist circuit))
      ∙ ap (driver_value input state) (driver_at-gate netlist gate circuit is_gate)
      ∙ ap (gate_value (gate_at netlist gate).kind) (stable-wires gate is_gate)

  -- the k-th gate of elements, by its name
  gate-agrees : (names_before names_after : List (List ℕ)) (name : List ℕ) (before after : List NetlistGate) (gate : NetlistGate)
      → netlist.names ≡ names_before ++ name ∷ names_after → netlist.gates ≡ before ++ gate ∷ after → length names_before ≡ netlist.inputs + length before
      → node_value netlist state name ≡ gate_value gate.kind (map (bit_at state) gate.sources)
  gate-agrees names_before names_after name before after gate names gates place =
      let number : number_in netlist.names name ≡ length names_before =
      ap (λ all. number_in all name) names ∙ number-placed names_before names_after name (subst (IsDistinct bytes_eq) names circuit.names_distinct) in
      let many : length netlist.names ≡ length names_before + suc (length names_after) = ap length names ∙ length-append names_before (name ∷ names_after) in
      let is_gate : IsGateNumber netlist (length names_before) = (omega (arith, place), omega (arith, many)) in
      let at : length names_before - netlist.inputs ≡ length before = omega (arith, place) in
      let here : gate_at netlist (length names_before) ≡ gate =
      ap (λ i. slice_index_or netlist.gates i no_gate) at ∙ ap (λ all. slice_index_or all (length before) no_gate) gates ∙ get_or-append_seam before gate after no_gate in
      ap (bit_at state) number ∙ stable-gate (length names_before) is_gate
      ∙ ap (λ gate. gate_value gate.kind (map (bit_at state) gate.sources)) here

  -- the values of names agree with elements whose gates are the last of the circuit's
  agrees-from : (names_before : List (List ℕ)) (before : List NetlistGate) (elements : List Element)
      → netlist.names ≡ names_before ++ gate_names elements → netlist.gates ≡ before ++ gates_of netlist.names elements → length names_before ≡ netlist.inputs + length before
      → AgreeWithAll (node_value netlist state) elements
  agrees-from names_before before [] names gates place = tt
  agrees-from names_before before (Input name ∷ rest) names gates place = (tt, agrees-from names_before before rest names gates place)
  agrees-from names_before before (Output name ∷ rest) names gates place = (tt, agrees-from names_before before rest names gates place)
  agrees-from names_before before (Cut name source ∷ rest) names gates place = (tt, agrees-from names_before before rest names gates place)
  agrees-from names_before before (Gate name kind sources ∷ rest) names gates place =
      let gate : NetlistGate = record { kind = kind; sources = map (number_in netlist.names) sources } in (
        gate-agrees names_before (gate_names rest) name before (gates_of netlist.names rest) gate names gates place
            ∙ ap (gate_value kind) (map-map (bit_at state) (number_in netlist.names) sources),
        agrees-from (names_before ++ name ∷ []) (before ++ gate ∷ []) rest
            (names ∙ sym (append_assoc names_before (name ∷ []) (gate_names rest)))
            (gates ∙ sym (append_assoc before (gate ∷ []) (gates_of netlist.names rest)))
            (omega (arith, place, length-append names_before (name ∷ []), length-append before (gate ∷ []))),
      )

-- in a stable state of the network of a circuit of elements, the values of names agree with each element
pub stable-elements : (elements : List Element) (input state : List Bool) → IsCircuit (circuit_of_elements elements) → length state ≡ length (network_of (circuit_of_elements elements))
    → IsStable (network_of (circuit_of_elements elements)) input state → AgreeWithAll (node_value (circuit_of_elements elements) state) elements
stable-elements elements input state circuit long stable =
    agrees-from (circuit_of_elements elements) input state circuit long stable (all_inputs elements) [] elements refl refl (omega arith)
