-- A gate that is not listed is stable in a completed start: it is forced to what its pins give.
use Rattle.std.proofs.Common.{◌≡◌, ◌∙◌, ap, sym, refl, subst, ℕ, ◌+◌, ◌<◌, Bool, true, false, Option, Some, None, List, length, map, take, get_or, arith, slice_get}
use Rattle.std.proofs.lemmas.List.{get_or-take, length-map, length-take-le}
use Rattle.hz_core.specs.Ternary.{tri_of}
use Rattle.hz_core.specs.Gate.{gate_value}
use Rattle.hz_core.specs.Netlist.{Netlist, IsCircuit, IsGateNumber, gate_at}
use Rattle.hz_core.proofs.Extensions.{extension-map}
use Rattle.hz_core.proofs.CircuitLemmas.{sources-at_gate}
use Rattle.hz_net.specs.Network.{network_of, driver_value, bit_at, excitation}
use Rattle.hz_net.specs.Starts.{IsForced, IsCompletedStart}
use Rattle.hz_net.specs.Variables.{first_wire, at_wires}
use Rattle.hz_net.proofs.Derivations.{AreForced, forced-extension, forced_once}
use Rattle.hz_net.proofs.Places.{driver_at-gate, bit_at-expansion_of-wire, wire_at-pin, first_wire-bound, length-network_of}
use Rattle.hz_net.proofs.Ranks.{at-tri_of}
use Rattle.hz_net.proofs.Wires.{length-at_wires, get_or-at_wires}
use Rattle.hz_pass.proofs.ForcingLoop.{AreForced-places}

same-bit : (known bit : Bool) → tri_of known ≡ tri_of bit → known ≡ bit
same-bit false false e = refl
same-bit true true e = refl
same-bit false true e = cc
same-bit true false e = cc

module _ (netlist : Netlist) (listed : List (Option Bool)) (circuit : IsCircuit netlist) (state : List Bool) (is : IsCompletedStart netlist listed state) (gate : ℕ) (is_gate : IsGateNumber netlist gate) where
  inside : (k : ℕ) → k < length (gate_at netlist gate).sources → get_or (gate_at netlist gate).sources k 0 < length netlist.names
  inside k few = sources-at_gate netlist gate circuit is_gate k 0 few

  -- the wire into a pin has the bit of the node that the pin reads
  wire-bit : (pin : ℕ) → pin < length (gate_at netlist gate).sources → bit_at state (first_wire netlist gate + pin) ≡ bit_at state (get_or (gate_at netlist gate).sources pin 0)
  wire-bit pin few =
      let wire = first_wire netlist gate + pin in
      let bound = first_wire-bound netlist gate circuit is_gate in
      let nodes_long = length-take-le (length netlist.names) state (omega (arith, is.long, length-network_of netlist circuit)) in
      ap (λ (s : List Bool). bit_at s wire) is.wires
      ∙ (bit_at-expansion_of-wire netlist (take (length netlist.names) state) wire nodes_long (omega arith) (omega arith)
      ∙ (ap (λ w. bit_at (take (length netlist.names) state) w.source) (wire_at-pin netlist gate pin circuit is_gate few)
      ∙ get_or-take (length netlist.names) state (get_or (gate_at netlist gate).sources pin 0) false (inside pin few)))

  pins-forced : AreForced netlist listed (gate_at netlist gate).sources (map tri_of (at_wires netlist gate state))
  pins-forced =
      AreForced-places netlist listed (gate_at netlist gate).sources (map tri_of (at_wires netlist gate state))
      (length-map (at_wires netlist gate state) tri_of ∙ length-at_wires netlist gate state circuit is_gate is.long)
      (λ k bit few known.
      let source = get_or (gate_at netlist gate).sources k 0 in
      let at : bit_at (at_wires netlist gate state) k ≡ bit_at state source = get_or-at_wires netlist gate state k false few ∙ wire-bit k few in
      let same : bit_at state source ≡ bit = same-bit (bit_at state source) bit (ap tri_of (sym at) ∙ (sym (at-tri_of (at_wires netlist gate state) k) ∙ known)) in
      subst (IsForced netlist listed source) same (is.forced source (inside k few)))

  pub unlisted-stable : slice_get listed gate ≡ Some None → bit_at state gate ≡ excitation (network_of netlist) (take netlist.inputs state) state gate
  unlisted-stable unlisted =
      let kind = (gate_at netlist gate).kind in
      let gives : IsForced netlist listed gate (gate_value kind (at_wires netlist gate state)) =
      forced-extension netlist listed gate (map tri_of (at_wires netlist gate state)) (gate_value kind (at_wires netlist gate state)) is_gate unlisted pins-forced
      (extension-map kind (at_wires netlist gate state)) in
      forced_once netlist listed gate (bit_at state gate) (gate_value kind (at_wires netlist gate state)) (is.forced gate is_gate.1) gives
      ∙ sym (ap (driver_value (take netlist.inputs state) state) (driver_at-gate netlist gate circuit is_gate))
