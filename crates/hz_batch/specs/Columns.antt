-- Values of variables in all lanes.
use Rattle.std.specs.Prelude.{◌≡◌, ℕ, ◌<◌, Some, Option, List, [], length, slice_get, slice_index}
use Rattle.std.specs.List.{slice_index_or}
use Rattle.hz_core.specs.declared.tri.Tri.{Tri}
use Rattle.hz_core.specs.Netlist.{Netlist}
use Rattle.hz_net.specs.Network.{value_at}
use Rattle.hz_plane.specs.declared.stage.Stage.{Stage}
use Rattle.hz_plane.specs.Loads.{Loaded}
use Rattle.hz_plane.specs.declared.values.LaneValues.{LaneValues}
use Rattle.hz_plane.specs.View.{IsLaneValue, IsFilledValue, value_in}

-- what planes say of a value in a lane, at a stage
abbrev pub IsTold : Stage → Netlist → Loaded → ℕ → Tri → Type 0
IsTold stage netlist loaded var value =
    IsLaneValue stage netlist loaded var value × IsFilledValue stage netlist loaded var value

-- no values
abbrev pub no_values : LaneValues
no_values = record { zero = []; one = [] }

-- columns of variables have in a lane their values in a state
abbrev pub HasColumns : List ℕ → List LaneValues → ℕ → List Tri → Type 0
HasColumns variables columns lane state =
    (place : ℕ) → place < length variables →
    value_in (slice_index_or columns place no_values) lane
    ≡ value_at state (slice_index variables place)

-- the values of a variable in the loaded lanes, at a stage
abbrev pub IsColumn : Netlist → Stage → List (Option Loaded) → ℕ → LaneValues → Type 0
IsColumn netlist stage lanes var column =
    (lane : ℕ) (loaded : Loaded) → lane < 512 → slice_get lanes lane ≡ Some (Some loaded) →
    IsTold stage netlist loaded var (value_in column lane)

-- the values of variables, a column for each
abbrev pub AreColumns : Netlist → Stage → List (Option Loaded) → List ℕ → List LaneValues → Type 0
AreColumns netlist stage lanes variables columns =
    (place : ℕ) → place < length variables →
    IsColumn netlist stage lanes (slice_index variables place)
    (slice_index_or columns place no_values)
