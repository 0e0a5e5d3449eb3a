-- What a lane holds: the start that listed values force.
use Rattle.std.specs.Prelude.{◌≡◌, ℕ, ◌<◌, Bool, Option, Some, None, List, [], ◌∷◌, length, map, slice_get}
use Rattle.std.specs.List.{slice_index_or}
use Rattle.hz_core.specs.declared.tri.Tri.{Tri}
use Rattle.hz_core.specs.declared.tri.Tri.TheVariants.{Unknown}
use Rattle.hz_core.specs.Ternary.{tri_of, join_of}
use Rattle.hz_core.specs.Netlist.{Netlist, IsGateNumber}
use Rattle.hz_net.specs.Network.{value_at, bit_at}
use Rattle.hz_plane.specs.Bits.{IsPlane, lane_bit, bit_number}
use Rattle.hz_net.specs.Starts.{IsForced, IsOpen}
use Rattle.hz_plane.specs.declared.listing.Listing.{Listing}
use Rattle.hz_plane.specs.Loads.{lane_listed}
use Rattle.hz_plane.specs.Steps.{all_values}

-- the value of a node that listed values give it, X if they give none
abbrev pub listed_value : Option (Option Bool) → Tri
listed_value None = Unknown
listed_value (Some None) = Unknown
listed_value (Some (Some bit)) = tri_of bit

-- The values with which the steps begin: the listed ones, and X if none is listed.
pub record BeginsStart (netlist : Netlist) (listed : List (Option Bool))
    (values : List Tri) : Type 0 where
  pub count : length values ≡ length netlist.names
  pub each : (node : ℕ) → node < length netlist.names →
      value_at values node ≡ listed_value (slice_get listed node)

-- The values with which the steps begin: a state, and at inputs its join with the new input.
pub record BeginsSpread (netlist : Netlist) (input : List Bool)
    (first values : List Tri) : Type 0 where
  pub long : length values ≡ length netlist.names
  pub inputs : (node : ℕ) → node < netlist.inputs →
      value_at values node ≡ join_of (value_at first node) (tri_of (bit_at input node))
  pub gates : (node : ℕ) → IsGateNumber netlist node → value_at values node ≡ value_at first node

-- The values with which the steps begin: a state, and at inputs the new input.
pub record BeginsSettle (netlist : Netlist) (input : List Bool)
    (first values : List Tri) : Type 0 where
  pub count : length values ≡ length netlist.names
  pub inputs : (node : ℕ) → node < netlist.inputs →
      value_at values node ≡ tri_of (bit_at input node)
  pub gates : (node : ℕ) → IsGateNumber netlist node → value_at values node ≡ value_at first node

-- the values with the first ones, at the inputs, put together with input bits
abbrev pub with_inputs : (Tri → Tri → Tri) → List Bool → List Tri → List Tri
with_inputs put [] values = values
with_inputs put (bit ∷ bits) [] = []
with_inputs put (bit ∷ bits) (value ∷ values) = put value (tri_of bit) ∷ with_inputs put bits values

abbrev pub second_of : Tri → Tri → Tri
second_of value bit = bit

-- a lane of one plane for each input has these bits
pub record HasInputs (inputs : List (List ℕ)) (lane : ℕ) (input : List Bool) : Type 0 where
  pub long : length input ≡ length inputs
  pub each : (i : ℕ) → i < length inputs →
      lane_bit (slice_index_or inputs i []) lane ≡ bit_number (bit_at input i)

-- each is a plane
pub record AreInputPlanes (inputs : List (List ℕ)) : Type 0 where
  pub each : (i : ℕ) → i < length inputs → IsPlane (slice_index_or inputs i [])

-- the values of nodes are those of a state
pub record AreNodesOf (netlist : Netlist) (state values : List Tri) : Type 0 where
  pub count : length values ≡ length netlist.names
  pub each : (node : ℕ) → node < length netlist.names → value_at values node ≡ value_at state node

-- each input has a listed value, cuts too
abbrev pub ListsAllInputs : Netlist → List (Option Bool) → Type 0
ListsAllInputs netlist listed =
    (input : ℕ) → input < netlist.inputs → (bit : Bool) × (slice_get listed input ≡ Some (Some bit))

-- no gate has a listed value
abbrev pub ListsNoGate : Netlist → List (Option Bool) → Type 0
ListsNoGate netlist listed =
    (gate : ℕ) → IsGateNumber netlist gate → slice_get listed gate ≡ Some None

-- a node has the bit to which it is forced, and is X if it is open
pub record AreForcedNodes (netlist : Netlist) (listed : List (Option Bool))
    (values : List Tri) : Type 0 where
  pub count : length values ≡ length netlist.names
  pub forced : (node : ℕ) (bit : Bool) → node < length netlist.names →
      value_at values node ≡ tri_of bit → IsForced netlist listed node bit
  pub opens : (node : ℕ) → node < length netlist.names → value_at values node ≡ Unknown →
      IsOpen netlist listed node

-- a state has the values of the nodes, and each wire its source's
pub record AreAllOf (netlist : Netlist) (state values : List Tri) : Type 0 where
  pub count : length values ≡ length netlist.names
  pub whole : all_values netlist values ≡ state

-- the values that a lane lists for all nodes, X if it lists none
abbrev pub listed_values : List Listing → ℕ → List Tri
listed_values listings lane = map (λ listed. listed_value (Some listed)) (lane_listed listings lane)

-- The filled start of listed values: each node has the bit to which it is forced, or is X if it is open, and each wire has
-- its source's value. Where no node is open, this is the completed start.
pub record IsFilledStart (netlist : Netlist) (listed : List (Option Bool))
    (state : List Tri) : Type 0 where
  pub nodes : List Tri
  pub forced : AreForcedNodes netlist listed nodes
  pub whole : AreAllOf netlist state nodes
