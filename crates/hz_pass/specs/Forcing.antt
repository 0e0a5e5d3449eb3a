-- How values are forced: what is known while they are carried from node to node.
use Rattle.std.specs.Prelude.{◌≡◌, ◌≢◌, ℕ, ◌+◌, ◌<◌, ◌≤◌, ◌⊎◌, Bool, Option, Some, None, List, [], ◌∷◌, ◌++◌, length, drop, All, Contains, slice_get, slice_set}
use Rattle.hz_core.specs.declared.tri.Tri.{Tri}
use Rattle.hz_core.specs.declared.tri.Tri.TheVariants.{Zero, One, Unknown}
use Rattle.hz_core.specs.Ternary.{tri_of, unknown_count}
use Rattle.hz_core.specs.Extension.{extension}
use Rattle.hz_core.specs.Netlist.{Netlist, IsCircuit, IsGateNumber, gate_at}
use Rattle.hz_net.specs.Network.{network_of, Source, driver_at, value_at, IsState}
use Rattle.hz_net.specs.Variables.{at_wires}
use Rattle.hz_net.specs.Starts.{IsForced, IsOpen}
use Rattle.hz_pass.specs.CutLists.{IsDataOf}

-- the value of a node that listed values give it, X if they give none
abbrev pub listed_value : Option (Option Bool) → Tri
listed_value None = Unknown
listed_value (Some None) = Unknown
listed_value (Some (Some bit)) = tri_of bit

-- the listed values are set, and the nodes that they are given to wait
pub record HasListedValues (listed : List (Option Bool)) (values : List Tri)
    (waiting : List ℕ) : Type 0 where
  pub values_are : (var : ℕ) → var < length values →
      value_at values var ≡ listed_value (slice_get listed var)
  pub wait : (node : ℕ) (bit : Bool) → slice_get listed node ≡ Some (Some bit) →
      Contains waiting node
  pub are_listed : All (λ node. (bit : Bool) × (slice_get listed node ≡ Some (Some bit))) waiting

-- the ternary extension of a gate's function on its wires
abbrev pub gate_extension : Netlist → List Tri → ℕ → Tri
gate_extension netlist values gate =
    extension (gate_at netlist gate).kind (at_wires netlist gate values)

-- a node that was X and has a known value is set to it and waits; else nothing changes
abbrev pub SetsNode : Tri → Tri → ℕ → List Tri → List Tri → List ℕ → List ℕ → Type 0
SetsNode Zero extended gate values values' waiting waiting' =
    (values' ≡ values) × (waiting' ≡ waiting)
SetsNode One extended gate values values' waiting waiting' =
    (values' ≡ values) × (waiting' ≡ waiting)
SetsNode Unknown Unknown gate values values' waiting waiting' =
    (values' ≡ values) × (waiting' ≡ waiting)
SetsNode Unknown Zero gate values values' waiting waiting' =
    (values' ≡ slice_set values gate Zero) × (waiting' ≡ waiting ++ gate ∷ [])
SetsNode Unknown One gate values values' waiting waiting' =
    (values' ≡ slice_set values gate One) × (waiting' ≡ waiting ++ gate ∷ [])

-- the worklist: the nodes that wait, the wires and the cuts of a node that are due, and the gates one of whose wires was set
pub record Worklist : Type 0 where
  pub waiting : List ℕ
  pub due : List ℕ
  pub cuts : List ℕ
  pub touched : List ℕ

-- a node's value is carried to these wires and gates: nodes wait, wires and cuts are due, gates were touched
abbrev pub touching : List ℕ → List ℕ → List ℕ → List ℕ → Worklist
touching waiting due cuts touched =
    record { waiting = waiting; due = due; cuts = cuts; touched = touched }

-- a node's value is carried on: nodes wait, wires and cuts are due
abbrev pub carrying : List ℕ → List ℕ → List ℕ → Worklist
carrying waiting due cuts = touching waiting due cuts []

-- between two nodes: nodes wait, and nothing is due
abbrev pub only_waiting : List ℕ → Worklist
only_waiting waiting = carrying waiting [] []

-- What is known while values are forced, beside what the worklist still has: what is set is forced, and nothing else holds a cut
-- back whose data node is known, nor a gate whose extension is.
pub record ForcedSoFar (netlist : Netlist) (listed : List (Option Bool)) (values : List Tri)
    (work : Worklist) : Type 0 where
  pub long : IsState netlist values
  pub agrees : (node : ℕ) (bit : Bool) → slice_get listed node ≡ Some (Some bit) →
      value_at values node ≡ tri_of bit
  pub sound : (node : ℕ) (bit : Bool) → node < length netlist.names →
      value_at values node ≡ tri_of bit → IsForced netlist listed node bit
  pub carried : (wire node : ℕ) → driver_at (network_of netlist) wire ≡ Source node →
      (value_at values wire ≡ Unknown) ⊎ (value_at values wire ≡ value_at values node)
  pub delivered : (wire node : ℕ) → driver_at (network_of netlist) wire ≡ Source node →
      (value_at values wire ≡ value_at values node)
      ⊎ (Contains work.waiting node ⊎ Contains work.due wire)
  pub open_cuts : (cut node : ℕ) → IsDataOf netlist node cut → value_at values cut ≡ Unknown →
      (value_at values node ≡ Unknown) ⊎ (Contains work.waiting node ⊎ Contains work.cuts cut)
  pub closed : (gate : ℕ) → IsGateNumber netlist gate → value_at values gate ≡ Unknown →
      (gate_extension netlist values gate ≡ Unknown) ⊎ Contains work.touched gate
  pub waits : All (λ node. (node < length netlist.names) × (value_at values node ≢ Unknown))
      work.waiting

-- a node has the bit to which it is forced, and is X if it is open
pub record AreForcedValues (netlist : Netlist) (listed : List (Option Bool))
    (values : List Tri) : Type 0 where
  pub long : IsState netlist values
  pub forced : (node : ℕ) (bit : Bool) → node < length netlist.names →
      value_at values node ≡ tri_of bit → IsForced netlist listed node bit
  pub opens : (node : ℕ) → node < length netlist.names → value_at values node ≡ Unknown →
      IsOpen netlist listed node

-- each wire has its source's value
abbrev pub AreDelivered : Netlist → List Tri → Type 0
AreDelivered netlist values =
    (wire node : ℕ) → driver_at (network_of netlist) wire ≡ Source node →
    value_at values wire ≡ value_at values node

-- what one worklist leaves known at some values, another leaves known at others, for a node whose cuts these are and its value
abbrev pub CarriesOn : List ℕ → Tri → List Tri → List Tri → (List ℕ → Worklist) →
    (List ℕ → Worklist) → Type 0
CarriesOn cuts value first values before after =
    (netlist : Netlist) (listed : List (Option Bool)) (node : ℕ) (due : List ℕ) →
    IsCircuit netlist → length listed ≡ length netlist.names →
    All (IsDataOf netlist node) cuts → value_at first node ≡ value →
    ForcedSoFar netlist listed first (before due) → ForcedSoFar netlist listed values (after due)

-- the first cuts of a list were given a known value, and wait, if they were X: what is known stays, and the cuts of a data node that
-- has this value are due no more
pub record IsTaken (cuts : List ℕ) (value : Tri) (first values : List Tri)
    (first_waiting waiting : List ℕ) (count : ℕ) : Type 0 where
  pub long : length values ≡ length first
  pub kept : (var : ℕ) → value_at first var ≢ Unknown → value_at values var ≡ value_at first var
  pub forced : CarriesOn cuts value first values (λ due. carrying first_waiting due cuts)
      (λ due. carrying waiting due (drop count cuts))
  pub fewer : unknown_count values + length waiting ≤ unknown_count first + length first_waiting
