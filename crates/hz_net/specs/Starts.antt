-- The completed start: the values that listed values force upon the nodes that are not listed.
use Rattle.std.specs.Prelude.{◌≡◌, ℕ, ◌<◌, ◌≤◌, ◌⊎◌, Bool, Option, Some, None, List, [], ◌∷◌, length, take, Contains, slice_get}
use Rattle.hz_core.specs.Gate.{gate_value}
use Rattle.hz_core.specs.Netlist.{Netlist, IsCutNumber, IsGateNumber, IsPrimaryInput, data_of, gate_at}
use Rattle.hz_net.specs.Network.{bit_at, network_of, excitation, IsUnstable, IsStable, IsState}
use Rattle.hz_net.specs.Variables.{expansion_of}

-- bits for a gate's pins that agree with pairs of a node and its bit: at a source that a pair names, the bit is the pair's
abbrev pub AgreeWith : List (ℕ × Bool) → List ℕ → List Bool → Type 0
AgreeWith pairs [] [] = Unit {0}
AgreeWith pairs [] (bit ∷ bits) = ⊥
AgreeWith pairs (source ∷ sources) [] = ⊥
AgreeWith pairs (source ∷ sources) (bit ∷ bits) =
    ((other : Bool) → Contains pairs (source, other) → other ≡ bit) × AgreeWith pairs sources bits

-- A cut that is not listed has the bit that a pair gives to its data node, as in a clocked circuit at rest.
pub record TakesData (netlist : Netlist) (listed : List (Option Bool)) (pairs : List (ℕ × Bool))
    (cut : ℕ) (bit : Bool) : Type 0 where
  pub node : ℕ
  pub is_cut : IsCutNumber netlist cut
  pub is_data : data_of netlist cut ≡ Some node
  pub unlisted : slice_get listed cut ≡ Some None
  pub given : Contains pairs (node, bit)

-- A gate that is not listed has a bit whatever its pins hold that the pairs leave open.
pub record Follows (netlist : Netlist) (listed : List (Option Bool)) (pairs : List (ℕ × Bool))
    (gate : ℕ) (bit : Bool) : Type 0 where
  pub is_gate : IsGateNumber netlist gate
  pub unlisted : slice_get listed gate ≡ Some None
  pub always : (bits : List Bool) → AgreeWith pairs (gate_at netlist gate).sources bits →
      gate_value (gate_at netlist gate).kind bits ≡ bit

-- A node has a bit, given these pairs: it is listed with this bit, or it takes it from its data node, or it follows at a gate.
abbrev pub IsGiven : Netlist → List (Option Bool) → List (ℕ × Bool) → ℕ → Bool → Type 0
IsGiven netlist listed pairs node bit =
    (slice_get listed node ≡ Some (Some bit))
    ⊎ (TakesData netlist listed pairs node bit ⊎ Follows netlist listed pairs node bit)

-- A derivation, its newest pair first: each pair of a node and a bit is given by the earlier ones.
abbrev pub IsDerivation : Netlist → List (Option Bool) → List (ℕ × Bool) → Type 0
IsDerivation netlist listed [] = Unit {0}
IsDerivation netlist listed (pair ∷ earlier) =
    IsGiven netlist listed earlier pair.0 pair.1 × IsDerivation netlist listed earlier

-- a node is forced to a bit if some derivation ends with this pair
abbrev pub IsForced : Netlist → List (Option Bool) → ℕ → Bool → Type 0
IsForced netlist listed node bit =
    (earlier : List (ℕ × Bool)) × IsDerivation netlist listed ((node, bit) ∷ earlier)

-- a node is open if it is forced to no bit
abbrev pub IsOpen : Netlist → List (Option Bool) → ℕ → Type 0
IsOpen netlist listed node = (bit : Bool) → IsForced netlist listed node bit → ⊥

-- each input that is no cut has a listed value
abbrev pub ListsInputs : Netlist → List (Option Bool) → Type 0
ListsInputs netlist listed =
    (input : ℕ) → IsPrimaryInput netlist input →
    (bit : Bool) × (slice_get listed input ≡ Some (Some bit))

-- The completed start, which is there if no node is open: each node has the bit to which it is forced, each wire its
-- source's.
pub record IsCompletedStart (netlist : Netlist) (listed : List (Option Bool))
    (state : List Bool) : Type 0 where
  pub long : IsState netlist state
  pub forced : (node : ℕ) → node < length netlist.names →
      IsForced netlist listed node (bit_at state node)
  pub wires : state ≡ expansion_of netlist (take (length netlist.names) state)

-- a state of the network that is stable under its own inputs: a change may start from it
pub record IsStableStart (netlist : Netlist) (state : List Bool) : Type 0 where
  pub long : IsState netlist state
  pub stable : IsStable (network_of netlist) (take netlist.inputs state) state

-- a completed start that is accepted: it is stable under its own inputs
pub record IsAcceptedStart (netlist : Netlist) (listed : List (Option Bool))
    (state : List Bool) : Type 0 where
  pub completed : IsCompletedStart netlist listed state
  pub stable : IsStable (network_of netlist) (take netlist.inputs state) state

-- the least node that is open: a cut or a gate
pub record IsLeastOpen (netlist : Netlist) (listed : List (Option Bool)) (node : ℕ) : Type 0 where
  pub is_node : node < length netlist.names
  pub is_open : IsOpen netlist listed node
  pub least : (other : ℕ) → other < node → (bit : Bool) × IsForced netlist listed other bit

-- The least gate that is unstable at the completed start: its bit differs from its gate function of its wires.
pub record IsLeastUnstable (netlist : Netlist) (listed : List (Option Bool))
    (gate : ℕ) : Type 0 where
  pub state : List Bool
  pub completed : IsCompletedStart netlist listed state
  pub is_gate : IsGateNumber netlist gate
  pub is_unstable : IsUnstable (network_of netlist) (take netlist.inputs state) state gate
  pub least : (other : ℕ) → netlist.inputs ≤ other → other < gate →
      bit_at state other ≡ excitation (network_of netlist) (take netlist.inputs state) state other
