-- Gates without feedback, evaluated in an order in which each stands after the gates that it reads.
use Rattle.std.specs.Prelude.{◌≡◌, ℕ, ◌<◌, List, [], length, map, slice_index}
use Rattle.hz_core.specs.declared.kind.Kind.{Kind}
use Rattle.hz_core.specs.Netlist.{Netlist, IsGateNumber, gate_at}
use Rattle.hz_plane.specs.declared.pair.Pair.{Pair}
use Rattle.hz_plane.specs.Bits.{IsPlane}
use Rattle.hz_plane.specs.Pairs.{pair_at, known_pair}
use Rattle.hz_plane.specs.Steps.{gate_pair}
use Rattle.hz_plane.specs.Sweeps.{readers_at}

-- the kinds of the gates of an order
abbrev pub kinds_at : Netlist → List ℕ → List Kind
kinds_at netlist order = map (λ gate. (gate_at netlist gate).kind) order

-- the nodes that each of them reads
abbrev pub pins_at : Netlist → List ℕ → List (List ℕ)
pins_at netlist order = map (λ gate. (gate_at netlist gate).sources) order

-- a pair that has a known bit in each lane
pub record IsKnownPair (pair : Pair) : Type 0 where
  pub plane : IsPlane pair.one
  pub known : pair ≡ known_pair pair.one

-- no gate of an order is read by one that stands no later
abbrev pub IsForward : List ℕ → List (List ℕ) → Type 0
IsForward order back = (place : ℕ) → place < length order → readers_at back place ≡ []

-- each node below the inputs' number has a known bit in each lane
abbrev pub AreKnownInputs : Netlist → List Pair → Type 0
AreKnownInputs netlist planes =
    (input : ℕ) → input < netlist.inputs → IsKnownPair (pair_at planes input)

-- Each node has a known bit in each lane, and each gate is its own excitation.
pub record AreEvaluated (netlist : Netlist) (planes : List Pair) : Type 0 where
  pub known : (node : ℕ) → node < length netlist.names → IsKnownPair (pair_at planes node)
  pub excited : (gate : ℕ) → IsGateNumber netlist gate →
      pair_at planes gate ≡ gate_pair netlist planes gate

-- The same of the inputs, and of the gates at the first places of an order.
pub record AreEvaluatedBelow (end : ℕ) (netlist : Netlist) (order : List ℕ)
    (planes : List Pair) : Type 0 where
  pub inputs : AreKnownInputs netlist planes
  pub known : (place : ℕ) → place < end → IsKnownPair (pair_at planes (slice_index order place))
  pub excited : (place : ℕ) → place < end →
      pair_at planes (slice_index order place) ≡ gate_pair netlist planes (slice_index order place)
