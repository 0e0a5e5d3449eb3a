-- Circuits at rest: every node is forced, and every gate to the value of its gate function of its sources' forced values.
use Rattle.std.proofs.Common.{◌≡◌, ◌∙◌, ap, sym, refl, subst, ℕ, zero, suc, ◌+◌, ◌-◌, ◌<◌, Bool, true, false, Option, Some, None, List, [], ◌∷◌, length, map, take, get_or, arith, slice_get}
use Rattle.std.proofs.lemmas.List.{get_or-take, ext_get_or, length-take-le}
use Rattle.hz_core.specs.Ternary.{tri_of}
use Rattle.hz_core.specs.Gate.{gate_value}
use Rattle.hz_core.specs.Netlist.{Netlist, Gate, IsCircuit, IsGateNumber, gate_at}
use Rattle.hz_core.proofs.Extensions.{extension-map}
use Rattle.hz_core.proofs.CircuitLemmas.{sources-at_gate}
use Rattle.hz_net.specs.Network.{network_of, driver_value, bit_at, excitation}
use Rattle.hz_net.specs.Starts.{IsForced, IsCompletedStart, IsLeastOpen, IsLeastUnstable}
use Rattle.hz_net.specs.Variables.{first_wire, at_wires}
use Rattle.hz_net.proofs.Derivations.{AreForced, forced-extension, forced-listed, forced_once}
use Rattle.hz_net.proofs.Places.{driver_at-gate, bit_at-expansion_of-wire, wire_at-pin, first_wire-bound, length-network_of}
use Rattle.hz_net.proofs.Wires.{length-at_wires, get_or-at_wires}

-- sources are forced to bits, one for each
abbrev pub AreForcedTo : Netlist → List (Option Bool) → List ℕ → List Bool → Type 0
AreForcedTo netlist listed [] [] = Unit {0}
AreForcedTo netlist listed [] (bit ∷ bits) = ⊥
AreForcedTo netlist listed (source ∷ sources) [] = ⊥
AreForcedTo netlist listed (source ∷ sources) (bit ∷ bits) = IsForced netlist listed source bit × AreForcedTo netlist listed sources bits

-- a node at rest
pub record Rests (netlist : Netlist) (listed : List (Option Bool)) (node : ℕ) (bit : Bool) : Type 0 where
  pub forced : IsForced netlist listed node bit
  pub bits : List Bool
  pub sources : IsGateNumber netlist node → AreForcedTo netlist listed (gate_at netlist node).sources bits
  pub value : IsGateNumber netlist node → gate_value (gate_at netlist node).kind bits ≡ bit

same-bit : (known bit : Bool) → tri_of known ≡ tri_of bit → known ≡ bit
same-bit false false e = refl
same-bit true true e = refl
same-bit false true e = cc
same-bit true false e = cc

are-forced : (netlist : Netlist) (listed : List (Option Bool)) (sources : List ℕ) (bits : List Bool) → AreForcedTo netlist listed sources bits → AreForced netlist listed sources (map tri_of bits)
are-forced netlist listed [] [] forced = tt
are-forced netlist listed [] (bit ∷ bits) forced = forced
are-forced netlist listed (source ∷ sources) [] forced = forced
are-forced netlist listed (source ∷ sources) (bit ∷ bits) forced =
    (λ other same. subst (IsForced netlist listed source) (same-bit bit other same) forced.0, are-forced netlist listed sources bits forced.1)

-- a gate that is not listed rests where its sources do
pub rest-gate : (netlist : Netlist) (listed : List (Option Bool)) (node : ℕ) (gate : Gate) (bits : List Bool) (bit : Bool) → IsGateNumber netlist node → gate_at netlist node ≡ gate → slice_get listed node ≡ Some None → AreForcedTo netlist listed gate.sources bits → gate_value gate.kind bits ≡ bit → Rests netlist listed node bit
rest-gate netlist listed node gate bits bit is_gate is unlisted forced value =
    let sources : AreForcedTo netlist listed (gate_at netlist node).sources bits =
    subst (λ (g : Gate). AreForcedTo netlist listed g.sources bits) (sym is) forced in
    let gives : gate_value (gate_at netlist node).kind bits ≡ bit = subst (λ (g : Gate). gate_value g.kind bits ≡ bit) (sym is) value in
    record {
      forced =
          forced-extension netlist listed node (map tri_of bits) bit is_gate unlisted
          (are-forced netlist listed (gate_at netlist node).sources bits sources) (extension-map (gate_at netlist node).kind bits ∙ ap tri_of gives);
      bits = bits;
      sources = λ _. sources;
      value = λ _. gives;
    }

-- a gate that is listed rests where its sources give it the listed bit
pub rest-listed : (netlist : Netlist) (listed : List (Option Bool)) (node : ℕ) (gate : Gate) (bits : List Bool) (bit : Bool) → gate_at netlist node ≡ gate → slice_get listed node ≡ Some (Some bit) → AreForcedTo netlist listed gate.sources bits → gate_value gate.kind bits ≡ bit → Rests netlist listed node bit
rest-listed netlist listed node gate bits bit is is_listed forced value =
    record {
      forced = forced-listed netlist listed node bit is_listed;
      bits = bits;
      sources = λ _. subst (λ (g : Gate). AreForcedTo netlist listed g.sources bits) (sym is) forced;
      value = λ _. subst (λ (g : Gate). gate_value g.kind bits ≡ bit) (sym is) value;
    }

-- an input rests where it is listed
pub rest-input : (netlist : Netlist) (listed : List (Option Bool)) (node : ℕ) (bit : Bool) → (IsGateNumber netlist node → ⊥) → slice_get listed node ≡ Some (Some bit) → Rests netlist listed node bit
rest-input netlist listed node bit no_gate is_listed =
    record {
      forced = forced-listed netlist listed node bit is_listed;
      bits = [];
      sources = λ is_gate. absurd (no_gate is_gate);
      value = λ is_gate. absurd (no_gate is_gate);
    }

-- where all nodes rest, no node is open
pub rests-not-open : (netlist : Netlist) (listed : List (Option Bool)) (node : ℕ) → ((i : ℕ) → i < length netlist.names → (bit : Bool) × Rests netlist listed i bit) → IsLeastOpen netlist listed node → ⊥
rests-not-open netlist listed node rests least =
    let rest = rests node least.is_node in
    least.is_open rest.0 rest.1.forced

forced-bits : (netlist : Netlist) (listed : List (Option Bool)) (state : List Bool) (sources : List ℕ) (bits : List Bool) → ((node : ℕ) → node < length netlist.names → IsForced netlist listed node (bit_at state node)) → AreForcedTo netlist listed sources bits
    → ((k : ℕ) → k < length sources → get_or sources k 0 < length netlist.names) → (length bits ≡ length sources) × ((k : ℕ) → k < length sources → get_or bits k false ≡ bit_at state (get_or sources k 0))
forced-bits netlist listed state [] [] all forced inside = (refl, λ k few. absurd (omega arith))
forced-bits netlist listed state [] (bit ∷ bits) all forced inside = absurd forced
forced-bits netlist listed state (source ∷ sources) [] all forced inside = absurd forced
forced-bits netlist listed state (source ∷ sources) (bit ∷ bits) all forced inside =
    let rest = forced-bits netlist listed state sources bits all forced.1 (λ k few. inside (suc k) (omega arith)) in
    (ap suc rest.0, each rest.1)
  where
    each : ((k : ℕ) → k < length sources → get_or bits k false ≡ bit_at state (get_or sources k 0)) → (k : ℕ) → k < length (source ∷ sources) → get_or (bit ∷ bits) k false ≡ bit_at state (get_or (source ∷ sources) k 0)
    each rest zero few = forced_once netlist listed source bit (bit_at state source) forced.0 (all source (inside 0 (omega arith)))
    each rest (suc k) few = rest k (omega arith)

module _ (netlist : Netlist) (listed : List (Option Bool)) (circuit : IsCircuit netlist) (state : List Bool) (is : IsCompletedStart netlist listed state) where
  long : length (take (length netlist.names) state) ≡ length netlist.names
  long = length-take-le (length netlist.names) state (omega (arith, is.long, length-network_of netlist circuit))

  -- the wire into a pin has the bit of the node that the pin reads
  wire-bit : (gate pin : ℕ) → IsGateNumber netlist gate → pin < length (gate_at netlist gate).sources → get_or (gate_at netlist gate).sources pin 0 < length netlist.names
      → bit_at state (first_wire netlist gate + pin) ≡ bit_at state (get_or (gate_at netlist gate).sources pin 0)
  wire-bit gate pin is_gate few inside =
      let wire = first_wire netlist gate + pin in
      let bound = first_wire-bound netlist gate circuit is_gate in
      ap (λ (s : List Bool). bit_at s wire) is.wires
      ∙ bit_at-expansion_of-wire netlist (take (length netlist.names) state) wire long (omega arith) (omega arith)
      ∙ ap (λ w. bit_at (take (length netlist.names) state) w.source) (wire_at-pin netlist gate pin circuit is_gate few)
      ∙ get_or-take (length netlist.names) state (get_or (gate_at netlist gate).sources pin 0) false inside

  rested-excitation : (gate : ℕ) (bit : Bool) → IsGateNumber netlist gate → Rests netlist listed gate bit → bit_at state gate ≡ excitation (network_of netlist) (take netlist.inputs state) state gate
  rested-excitation gate bit is_gate rest =
      let inside : (k : ℕ) → k < length (gate_at netlist gate).sources → get_or (gate_at netlist gate).sources k 0 < length netlist.names =
      λ k few. sources-at_gate netlist gate circuit is_gate k 0 few in
      let bits = forced-bits netlist listed state (gate_at netlist gate).sources rest.bits is.forced (rest.sources is_gate) inside in
      let wires : at_wires netlist gate state ≡ rest.bits =
      ext_get_or false (at_wires netlist gate state) rest.bits (length-at_wires netlist gate state circuit is_gate is.long ∙ sym bits.0)
      (λ k few.
      let less : k < length (gate_at netlist gate).sources = omega (arith, few, length-at_wires netlist gate state circuit is_gate is.long) in
      get_or-at_wires netlist gate state k false less ∙ wire-bit gate k is_gate less (inside k less) ∙ sym (bits.1 k less)) in
      sym (
      ap (driver_value (take netlist.inputs state) state) (driver_at-gate netlist gate circuit is_gate)
      ∙ ap (gate_value (gate_at netlist gate).kind) wires
      ∙ rest.value is_gate
      ∙ forced_once netlist listed gate bit (bit_at state gate) rest.forced (is.forced gate is_gate.1)
      )

-- and no gate is unstable
pub rests-not-unstable : (netlist : Netlist) (listed : List (Option Bool)) (gate : ℕ) → IsCircuit netlist → ((i : ℕ) → i < length netlist.names → (bit : Bool) × Rests netlist listed i bit) → IsLeastUnstable netlist listed gate → ⊥
rests-not-unstable netlist listed gate circuit rests least =
    let rest = rests gate least.is_gate.1 in
    least.is_unstable (rested-excitation netlist listed circuit least.state least.completed gate rest.0 least.is_gate rest.1)
