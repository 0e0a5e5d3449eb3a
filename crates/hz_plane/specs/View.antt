-- What contracts see of planes, and what a lane holds at each stage.
use Rattle.std.specs.Prelude.{◌≡◌, ◌≢◌, ℕ, ◌<◌, ◌⊎◌, Bool, true, false, Option, Some, None, List, [], length, replicate}
use Rattle.hz_core.specs.declared.tri.Tri.{Tri}
use Rattle.hz_core.specs.declared.tri.Tri.TheVariants.{Zero, One, Unknown}
use Rattle.hz_core.specs.Ternary.{tri_of}
use Rattle.hz_core.specs.Netlist.{Netlist, IsCircuit}
use Rattle.hz_net.specs.Network.{Source, network_of, driver_at, bit_at, value_at}
use Rattle.hz_net.specs.Passes.{algorithm_a, algorithm_b, AreRounds, IsResult}
use Rattle.hz_net.specs.TernaryStarts.{algorithm_a_from, SettlesTo}
use Rattle.hz_net.specs.Starts.{IsAcceptedStart, IsLeastOpen, IsLeastUnstable}
use Rattle.hz_plane.specs.declared.pair.Pair.{Pair}
use Rattle.hz_plane.specs.declared.stage.Stage.{Stage}
use Rattle.hz_plane.specs.declared.stage.Stage.TheVariants.{Loading, Completed, Spread, Settled}
use Rattle.hz_plane.specs.declared.stage.LaneFault.{LaneFault}
use Rattle.hz_plane.specs.declared.stage.LaneFault.TheVariants.{Open, Unstable}
use Rattle.hz_plane.specs.declared.values.LaneValues.{LaneValues}
use Rattle.hz_plane.specs.Bits.{has_lane}
use Rattle.hz_plane.specs.Loads.{Loaded, listed_with}
use Rattle.hz_plane.specs.Steps.{HasLane}
use Rattle.hz_plane.specs.Lanes.{AreForcedNodes, AreAllOf, IsFilledStart}

-- What contracts see: the circuit of the network, the stage, how often the planes were settled, and what was loaded into each
-- lane.
pub record Seen : Type 0 where
  pub netlist : Netlist
  pub stage : Stage
  pub settles : ℕ
  pub lanes : List (Option Loaded)

-- a node itself, or the source of a wire
abbrev pub IsNodeOf : Netlist → ℕ → ℕ → Type 0
IsNodeOf netlist var node =
    ((var < length netlist.names) × (node ≡ var))
    ⊎ (driver_at (network_of netlist) var ≡ Source node)

-- the value that can be 0, or 1, or both
abbrev pub value_by : Bool → Bool → Tri
value_by false false = Unknown
value_by false true = One
value_by true false = Zero
value_by true true = Unknown

-- the value in a lane, by the lanes in which it can be 0, and those in which it can be 1
abbrev pub value_in : LaneValues → ℕ → Tri
value_in values lane = value_by (has_lane values.zero lane) (has_lane values.one lane)

-- what `fault` says of the listed values
abbrev pub IsLaneFault : Netlist → List (Option Bool) → Option LaneFault → Type 0
IsLaneFault netlist listed None = (start : List Bool) × IsAcceptedStart netlist listed start
IsLaneFault netlist listed (Some (Open gate)) = IsLeastOpen netlist listed gate
IsLaneFault netlist listed (Some (Unstable gate)) = IsLeastUnstable netlist listed gate

-- what `get` says of a lane whose listed values give a start: its value there, or in the result of Algorithm A, or of B
abbrev pub IsLaneValue : Stage → Netlist → Loaded → ℕ → Tri → Type 0
IsLaneValue Loading netlist loaded var value = value ≡ Unknown
IsLaneValue Completed netlist loaded var value =
    (start : List Bool) → IsAcceptedStart netlist loaded.listed start →
    value ≡ tri_of (bit_at start var)
IsLaneValue Spread netlist loaded var value =
    (start : List Bool) (rounds : ℕ) → IsAcceptedStart netlist loaded.listed start →
    AreRounds (algorithm_a (network_of netlist) loaded.input start) rounds →
    value ≡ value_at (algorithm_a (network_of netlist) loaded.input start rounds) var
IsLaneValue Settled netlist loaded var value =
    (start : List Bool) (rounds rest : ℕ) → IsAcceptedStart netlist loaded.listed start →
    AreRounds (algorithm_a (network_of netlist) loaded.input start) rounds →
    AreRounds
    (algorithm_b (network_of netlist) loaded.input
    (algorithm_a (network_of netlist) loaded.input start rounds))
    rest →
    value
    ≡ value_at
    (algorithm_b (network_of netlist) loaded.input
    (algorithm_a (network_of netlist) loaded.input start rounds) rest)
    var

-- what `get` says of a lane, whatever its listed values give: its value in the filled start, in what Algorithm A makes of it, and
-- in what it settles to under the new input
abbrev pub IsFilledValue : Stage → Netlist → Loaded → ℕ → Tri → Type 0
IsFilledValue Loading netlist loaded var value = value ≡ Unknown
IsFilledValue Completed netlist loaded var value =
    (first : List Tri) → IsFilledStart netlist loaded.listed first → value ≡ value_at first var
IsFilledValue Spread netlist loaded var value =
    (first spread : List Tri) → IsFilledStart netlist loaded.listed first →
    IsResult (algorithm_a_from (network_of netlist) loaded.input first) spread →
    value ≡ value_at spread var
IsFilledValue Settled netlist loaded var value =
    (first settled : List Tri) → IsFilledStart netlist loaded.listed first →
    SettlesTo (network_of netlist) loaded.input first settled → value ≡ value_at settled var

-- some variable is X in a state, or none is
abbrev pub HasUnknown : List Tri → Bool → Type 0
HasUnknown state true = (var : ℕ) × (var < length state) × (value_at state var ≡ Unknown)
HasUnknown state false = (var : ℕ) → var < length state → value_at state var ≢ Unknown

-- what `is_unsettled` says of a lane whose listed values give a start
abbrev pub IsUnsettled : Netlist → Loaded → Bool → Type 0
IsUnsettled netlist loaded answer =
    (start : List Bool) (rounds rest : ℕ) → IsAcceptedStart netlist loaded.listed start →
    AreRounds (algorithm_a (network_of netlist) loaded.input start) rounds →
    AreRounds
    (algorithm_b (network_of netlist) loaded.input
    (algorithm_a (network_of netlist) loaded.input start rounds))
    rest →
    HasUnknown
    (algorithm_b (network_of netlist) loaded.input
    (algorithm_a (network_of netlist) loaded.input start rounds) rest)
    answer

-- what `is_unsettled` says of a lane, whatever its listed values give
abbrev pub LeavesUnknown : Netlist → Loaded → Bool → Type 0
LeavesUnknown netlist loaded answer =
    (first settled : List Tri) → IsFilledStart netlist loaded.listed first →
    SettlesTo (network_of netlist) loaded.input first settled → HasUnknown settled answer

-- what the planes hold in a lane
abbrev pub LaneHolds : Stage → Netlist → Loaded → List Pair → ℕ → Type 0
LaneHolds Loading netlist loaded values lane = Unit {0}
LaneHolds Completed netlist loaded values lane =
    (last : List Tri) × HasLane values lane last × AreForcedNodes netlist loaded.listed last
LaneHolds Spread netlist loaded values lane =
    (first : List Tri) (rounds : ℕ) → IsFilledStart netlist loaded.listed first →
    AreRounds (algorithm_a_from (network_of netlist) loaded.input first) rounds →
    (last : List Tri) × HasLane values lane last
    × AreAllOf netlist (algorithm_a_from (network_of netlist) loaded.input first rounds) last
LaneHolds Settled netlist loaded values lane =
    (first : List Tri) (rounds rest : ℕ) → IsFilledStart netlist loaded.listed first →
    AreRounds (algorithm_a_from (network_of netlist) loaded.input first) rounds →
    AreRounds
    (algorithm_b (network_of netlist) loaded.input
    (algorithm_a_from (network_of netlist) loaded.input first rounds))
    rest →
    (last : List Tri) × HasLane values lane last
    × AreAllOf netlist
    (algorithm_b (network_of netlist) loaded.input
    (algorithm_a_from (network_of netlist) loaded.input first rounds) rest)
    last

-- Where the inputs are listed and no gate is, the filled start is what Algorithm B makes of a state that is X everywhere.
abbrev pub ListedInputsFill : Type 0
ListedInputsFill =
    (netlist : Netlist) (bits : List Bool) (state : List Tri) → IsCircuit netlist →
    length bits ≡ netlist.inputs →
    IsResult
    (algorithm_b (network_of netlist) bits (replicate (length (network_of netlist)) Unknown))
    state →
    IsFilledStart netlist (listed_with (length netlist.names) bits []) state
