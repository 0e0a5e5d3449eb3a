-- What was loaded into lanes.
use Rattle.std.specs.Prelude.{ℕ, zero, suc, ◌-◌, ◌*◌, Bool, true, false, Option, None, Some, List, [], ◌∷◌, ◌++◌, length, map, take, drop, replicate, slice_set, if◌then◌else◌}
use Rattle.std.specs.List.{range_with_len, fold}
use Rattle.hz_plane.specs.declared.listing.Listing.{Listing}
use Rattle.hz_plane.specs.Bits.{has_lane}

-- what a lane was loaded with: the new input, and the listed start
pub record Loaded : Type 0 where
  pub input : List Bool
  pub listed : List (Option Bool)

-- what contracts see of all loads: how many inputs and nodes there are, and what was loaded into each lane
pub record LaneLoads : Type 0 where
  pub inputs : ℕ
  pub nodes : ℕ
  pub lanes : List (Option Loaded)

-- what is listed, if the lane is among those that list 0, or those that list 1
abbrev pub listed_by : Bool → Bool → Option Bool
listed_by true one = Some false
listed_by false true = Some true
listed_by false false = None

-- what a lane lists for a node
abbrev pub listed_in : Listing → ℕ → Option Bool
listed_in listing lane = listed_by (has_lane listing.zeros lane) (has_lane listing.ones lane)

-- what a lane lists for all nodes
abbrev pub lane_listed : List Listing → ℕ → List (Option Bool)
lane_listed listings lane = map (λ listing. listed_in listing lane) listings

-- a lane's new input, from one set of lanes for each input
abbrev pub lane_input : List (List ℕ) → ℕ → List Bool
lane_input inputs lane = map (λ set. has_lane set lane) inputs

-- what was loaded into a lane
abbrev pub lane_load : List ℕ → List (List ℕ) → List Listing → ℕ → Option Loaded
lane_load loaded inputs listings lane =
    if has_lane loaded lane
    then Some (record { input = lane_input inputs lane; listed = lane_listed listings lane })
    else None

-- what was loaded into each of the 512 lanes
abbrev pub lane_loads : List ℕ → List (List ℕ) → List Listing → List (Option Loaded)
lane_loads loaded inputs listings = map (lane_load loaded inputs listings) (range_with_len 0 512)

-- a list in which some nodes are held at bits
abbrev pub held_at : List (ℕ × Bool) → List (Option Bool) → List (Option Bool)
held_at held listed = fold (λ list node. slice_set list node.0 (Some node.1)) listed held

-- the listed start of so many nodes that lists the first bits of the inputs, and the held gates
abbrev pub listed_with : ℕ → List Bool → List (ℕ × Bool) → List (Option Bool)
listed_with nodes first held =
    held_at held (map Some first ++ replicate (nodes - length first) None)

-- what a lane was loaded with, if its start lists the held gates too
abbrev pub held_load : List (ℕ × Bool) → Option Loaded → Option Loaded
held_load held None = None
held_load held (Some loaded) = Some (record loaded { listed = held_at held loaded.listed })

-- what a lane is loaded with from a list of bits: the bits that its start lists for the inputs, and then its new input
abbrev pub loaded_from : (nodes inputs : ℕ) → List (ℕ × Bool) → List Bool → Loaded
loaded_from nodes inputs held bits =
    record {
      input = take inputs (drop inputs bits);
      listed = listed_with nodes (take inputs bits) held;
    }

-- what so many lanes are loaded with, from a list of the bits of one lane after the other
abbrev pub loads_in : (nodes inputs : ℕ) → List (ℕ × Bool) → ℕ → List Bool → List (Option Loaded)
loads_in nodes inputs held zero bits = []
loads_in nodes inputs held (suc lanes) bits =
    Some (loaded_from nodes inputs held bits)
    ∷ loads_in nodes inputs held lanes (drop (2 * inputs) bits)

-- the 512 lanes, of which the first ones are loaded so
abbrev pub block_loads : (nodes inputs : ℕ) → List (ℕ × Bool) → ℕ → List Bool → List (Option Loaded)
block_loads nodes inputs held lanes bits =
    loads_in nodes inputs held lanes bits ++ replicate (512 - lanes) None
