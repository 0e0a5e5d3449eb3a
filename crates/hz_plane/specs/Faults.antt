-- Why lanes have no stable start, as it is found from their values.
use Rattle.std.specs.Prelude.{◌≡◌, ◌≢◌, ℕ, ◌<◌, Bool, true, false, Option, None, Some, List, [], length}
use Rattle.std.specs.List.{slice_index_or}
use Rattle.hz_core.specs.Netlist.{Netlist, IsGateNumber}
use Rattle.hz_plane.specs.declared.listing.Listing.{Listing}
use Rattle.hz_plane.specs.declared.pair.Pair.{Pair}
use Rattle.hz_plane.specs.declared.stage.LaneFault.{LaneFault}
use Rattle.hz_plane.specs.declared.stage.LaneFault.TheVariants.{Open, Unstable}
use Rattle.hz_plane.specs.Bits.{lane_bit, has_lane}
use Rattle.hz_plane.specs.Pairs.{pair_at, and_words, or_words, not_words}
use Rattle.hz_plane.specs.Steps.{gate_pair}
use Rattle.hz_plane.specs.Loads.{listed_in}

-- the fault that a lane has in a list
abbrev pub fault_at : List (Option LaneFault) → ℕ → Option LaneFault
fault_at faults lane = slice_index_or faults lane None

-- a lane with a fault, unless it has one already
abbrev pub with_fault : Bool → LaneFault → Option LaneFault → Option LaneFault
with_fault is fault (Some earlier) = Some earlier
with_fault false fault None = None
with_fault true fault None = Some fault

-- the lanes in which two pairs have no value in common
abbrev pub conflict_words : Pair → Pair → List ℕ
conflict_words pair excited =
    not_words (or_words (and_words pair.zero excited.zero) (and_words pair.one excited.one))

-- a node is X in a lane: it can be 0, and it can be 1
abbrev pub IsUnknownIn : List Pair → ℕ → ℕ → Type 0
IsUnknownIn values lane node =
    (lane_bit (pair_at values node).zero lane ≡ 1) × (lane_bit (pair_at values node).one lane ≡ 1)

-- a gate's value and its excitation exclude each other in a lane
abbrev pub IsConflictIn : Netlist → List Pair → ℕ → ℕ → Type 0
IsConflictIn netlist values lane gate =
    lane_bit (conflict_words (pair_at values gate) (gate_pair netlist values gate)) lane ≡ 1

-- the least of the nodes below an end that is X in a lane
abbrev pub IsOpenFault : List Pair → ℕ → ℕ → Option LaneFault → Type 0
IsOpenFault values lane end None = (node : ℕ) → node < end → IsUnknownIn values lane node → ⊥
IsOpenFault values lane end (Some (Open gate)) =
    (gate < end) × IsUnknownIn values lane gate
    × ((node : ℕ) → node < gate → IsUnknownIn values lane node → ⊥)
IsOpenFault values lane end (Some (Unstable gate)) = ⊥

-- no gate below an end that is listed in a lane has a conflict there
abbrev pub AreStableBelow : Netlist → List Listing → List Pair → ℕ → ℕ → Type 0
AreStableBelow netlist listings values lane end =
    (gate : ℕ) → IsGateNumber netlist gate → gate < end →
    listed_in (slice_index_or listings gate (record { zeros = []; ones = [] })) lane ≢ None →
    IsConflictIn netlist values lane gate → ⊥

-- the fault from before, or the least of the gates below an end that has a conflict in a lane
abbrev pub IsUnstableFault : Netlist → List Listing → List Pair → ℕ → ℕ → Option LaneFault →
    Option LaneFault → Type 0
IsUnstableFault netlist listings values lane end (Some earlier) fault = fault ≡ Some earlier
IsUnstableFault netlist listings values lane end None None =
    AreStableBelow netlist listings values lane end
IsUnstableFault netlist listings values lane end None (Some (Open gate)) = ⊥
IsUnstableFault netlist listings values lane end None (Some (Unstable gate)) =
    IsGateNumber netlist gate × (gate < end) × IsConflictIn netlist values lane gate
    × AreStableBelow netlist listings values lane gate

-- the lanes in which some node is X
abbrev pub AreUnknownLanes : List Pair → ℕ → List ℕ → Type 0
AreUnknownLanes values end set =
    (lane : ℕ) → lane < 512 →
    (has_lane set lane ≡ true → (node : ℕ) × (node < end) × IsUnknownIn values lane node)
    × (has_lane set lane ≡ false → (node : ℕ) → node < end → IsUnknownIn values lane node → ⊥)

-- the fault of a lane: the least open node, and if there is none the least unstable gate
pub record IsNoted (netlist : Netlist) (listings : List Listing) (values : List Pair) (lane : ℕ)
    (fault : Option LaneFault) : Type 0 where
  pub first : Option LaneFault
  pub among_nodes : IsOpenFault values lane (length values) first
  pub among_gates : IsUnstableFault netlist listings values lane (length netlist.names) first fault
