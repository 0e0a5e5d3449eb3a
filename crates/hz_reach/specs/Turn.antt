-- A gate's turn, and which variables change in the other steps of the spread run.
use Rattle.std.specs.Prelude.{◌≡◌, ℕ, ◌+◌, ◌-◌, Bool, true, false, not, ◌&&◌, List, [], ◌∷◌, length, map, nat_lt, ◌==◌, if◌then◌else◌}
use Rattle.std.specs.List.{filter}
use Rattle.hz_core.specs.declared.tri.Tri.{Tri}
use Rattle.hz_core.specs.Ternary.{is_unknown}
use Rattle.hz_core.specs.Netlist.{Netlist, gate_at}
use Rattle.hz_core.specs.Pattern.{differs, IsCandidate, IsPattern}
use Rattle.hz_net.specs.Network.{Driver, External, Function, Source, driver_at, bit_at, value_at, network_of}
use Rattle.hz_net.specs.Variables.{first_wire, at_wires, fan_out_of}
use Rattle.hz_gmw.specs.Runs.{state_after}
use Rattle.hz_gmw.specs.RunRecord.{RunRecord}
use Rattle.hz_reach.specs.Order.{key_at}
use Rattle.hz_reach.specs.FilteredRange.{filtered_range}
use Rattle.hz_reach.specs.Room.{with_step_if_any, HasRoomFor}

-- whether a variable is a gate
abbrev pub has_function : Driver → Bool
has_function (External place) = false
has_function (Function kind first pins) = true
has_function (Source node) = false

abbrev pub is_gate_in : List Driver → ℕ → Bool
is_gate_in net i = has_function (driver_at net i)

-- of wires from a first one on, those whose bit differs from a pattern's
abbrev pub changed_wires : ℕ → List Bool → List Bool → List ℕ
changed_wires first now pattern =
    filtered_range (λ i. differs (bit_at now (i - first)) (bit_at pattern (i - first))) first
    (length now)

-- The wires that change first in a gate's turn: those that differ from the canonical pattern which gives the gate the
-- complement of its bit by its free pins.
pub record AreTurnWires (netlist : Netlist) (gate : ℕ) (free state : List Bool)
    (wires : List ℕ) : Type 0 where
  pub pattern : List Bool
  pub canonical : IsPattern (gate_at netlist gate).kind (at_wires netlist gate state) free
      (not (bit_at state gate)) pattern
  pub marks : wires ≡ changed_wires (first_wire netlist gate) (at_wires netlist gate state) pattern

-- what changes second: the gate, and if they go along, the wires of its fan-out that differ from it
abbrev pub turn_flips : Netlist → ℕ → Bool → List Bool → List ℕ
turn_flips netlist gate with_fan_out state =
    gate
    ∷ (if with_fan_out
    then filter (λ wire. differs (bit_at state wire) (bit_at state gate))
    (fan_out_of netlist gate)
    else [])

-- a gate can turn: some bits at its pins give it the complement of its bit, and differ from the wires at free pins alone
abbrev pub CanTurn : Netlist → ℕ → List Bool → List Bool → Type 0
CanTurn netlist gate free state =
    (list : List Bool)
    × IsCandidate (gate_at netlist gate).kind (at_wires netlist gate state) free
    (not (bit_at state gate)) list

-- a run has the room for its turn
abbrev pub HasRoomForTurn : Netlist → ℕ → List Bool → Bool → List Bool → RunRecord → Type 0
HasRoomForTurn netlist gate free with_fan_out state run =
    (wires : List ℕ) → AreTurnWires netlist gate free state wires →
    HasRoomFor
    (length wires + length (turn_flips netlist gate with_fan_out (state_after wires state))) run

-- the state after a turn, and the steps with its own
abbrev pub turn_end : Netlist → ℕ → Bool → List ℕ → List Bool → List Bool
turn_end netlist gate with_fan_out wires state =
    state_after (turn_flips netlist gate with_fan_out (state_after wires state))
    (state_after wires state)

abbrev pub turn_steps : Netlist → ℕ → Bool → List ℕ → List Bool → List (List ℕ) → List (List ℕ)
turn_steps netlist gate with_fan_out wires state steps =
    with_step_if_any (with_step_if_any steps wires)
    (turn_flips netlist gate with_fan_out (state_after wires state))

-- A gate's turn: the state and the steps of a run before it and after it.
pub record IsTurn (netlist : Netlist) (gate : ℕ) (free : List Bool) (with_fan_out : Bool)
    (before after : List Bool) (steps more : List (List ℕ)) : Type 0 where
  pub wires : List ℕ
  pub are_wires : AreTurnWires netlist gate free before wires
  pub ends : after ≡ turn_end netlist gate with_fan_out wires before
  pub made : more ≡ turn_steps netlist gate with_fan_out wires before steps

-- the inputs that differ from the new input
abbrev pub changed_inputs : Netlist → List Bool → List Bool → List ℕ
changed_inputs netlist start input =
    filtered_range (λ i. differs (bit_at start i) (bit_at input i)) 0 netlist.inputs

-- of the ranks of a gate's wires, which are not 0 and below the gate's own: these pins are free in the spread run
abbrev pub free_pins : ℕ → List ℕ → List Bool
free_pins own ranks = map (λ rank. not (rank == 0) && nat_lt rank own) ranks

abbrev pub earlier_pins : Netlist → List ℕ → ℕ → List Bool
earlier_pins netlist ranks gate = free_pins (key_at ranks gate) (at_wires netlist gate ranks)

-- variable i is X in the result of Algorithm A and has not changed
abbrev pub is_unchanged : List Tri → List Bool → List Bool → ℕ → Bool
is_unchanged a start state i =
    is_unknown (value_at a i) && not (differs (bit_at start i) (bit_at state i))

-- the wires that are X in the result of Algorithm A and have not changed
abbrev pub unchanged_wires : Netlist → List Tri → List Bool → List Bool → List ℕ
unchanged_wires netlist a start state =
    filtered_range (is_unchanged a start state) (length netlist.names)
    (length (network_of netlist) - length netlist.names)
