-- What the passes over planes make of each lane.
use Rattle.std.specs.Prelude.{ℕ, ◌<◌, Bool, Option, List}
use Rattle.hz_core.specs.declared.tri.Tri.{Tri}
use Rattle.hz_core.specs.Ternary.{AllBelow}
use Rattle.hz_core.specs.Netlist.{Netlist}
use Rattle.hz_net.specs.Network.{network_of}
use Rattle.hz_net.specs.Passes.{excitations, algorithm_b, AreRounds}
use Rattle.hz_net.specs.TernaryStarts.{algorithm_a_from}
use Rattle.hz_plane.specs.declared.pair.Pair.{Pair}
use Rattle.hz_plane.specs.Steps.{HasLane}
use Rattle.hz_plane.specs.Lanes.{AreForcedNodes, HasInputs, AreAllOf}

-- a lane holds what listed values force
abbrev pub HoldsForced : Netlist → List Pair → ℕ → List (Option Bool) → Type 0
HoldsForced netlist planes lane listed =
    (last : List Tri) × HasLane planes lane last × AreForcedNodes netlist listed last

-- planes after Algorithm A, from those before
abbrev pub SpreadsLanes : Netlist → List (List ℕ) → (before after : List Pair) → Type 0
SpreadsLanes netlist inputs before after =
    (lane : ℕ) (input : List Bool) (first nodes : List Tri) (rounds : ℕ) → lane < 512 →
    HasLane before lane nodes → AreAllOf netlist first nodes →
    HasInputs inputs lane input →
    AreRounds (algorithm_a_from (network_of netlist) input first) rounds →
    (last : List Tri) × HasLane after lane last
    × AreAllOf netlist (algorithm_a_from (network_of netlist) input first rounds) last

-- planes after Algorithm B, from those before
abbrev pub SettlesLanes : Netlist → List (List ℕ) → (before after : List Pair) → Type 0
SettlesLanes netlist inputs before after =
    (lane : ℕ) (input : List Bool) (first nodes : List Tri) (rest : ℕ) → lane < 512 →
    HasLane before lane nodes → AreAllOf netlist first nodes →
    HasInputs inputs lane input → AllBelow (excitations (network_of netlist) input first) first →
    AreRounds (algorithm_b (network_of netlist) input first) rest →
    (last : List Tri) × HasLane after lane last
    × AreAllOf netlist (algorithm_b (network_of netlist) input first rest) last
