-- What a replayer keeps, and the runs that it stands for.
use Rattle.std.specs.Prelude.{◌≡◌, ◌≢◌, ◌↔◌, ℕ, Bool, true, false, not, ◌&&◌, List, [], length, map, IsTrue}
use Rattle.std.specs.List.{range_with_len}
use Rattle.hz_core.specs.Netlist.{Netlist}
use Rattle.hz_net.specs.Network.{network_of, bit_at, IsVariable}
use Rattle.hz_lists.specs.Listed.{is_listed}
use Rattle.hz_gmw.specs.Runs.{state_after, IsRun, end_of}
use Rattle.hz_gmw.specs.Cycles.{Waits}
use Rattle.hz_gmw.specs.Instability.{is_unstable, unstable_variables}

-- What a replayer keeps: the circuit, the external input, the state in which it began, the current state, the marked
-- state, whether a step was made since the mark, and of each variable whether it is watched.
pub record Replayer : Type 0 where
  pub circuit : Netlist
  pub input : List Bool
  pub begun : List Bool
  pub state : List Bool
  pub marked : List Bool
  pub stepped : Bool
  pub watched : List Bool

-- A replayer stands for a run from its marked state to its current one, which has a step exactly if one was made since
-- the mark, and all along which exactly the watched variables wait.
pub record StandsFor (now : Replayer) (steps : List (List ℕ)) : Type 0 where
  pub run : IsRun (network_of now.circuit) now.input now.marked steps
  pub ends : end_of now.marked steps ≡ now.state
  pub stepped : IsTrue now.stepped ↔ (steps ≢ [])
  pub watched : (i : ℕ) → IsVariable now.circuit i →
      IsTrue (bit_at now.watched i) ↔ Waits (network_of now.circuit) now.input now.marked steps i

-- a replayer that began in one state, and whose current state is marked, with no step since
abbrev pub replayer_at : Netlist → List Bool → List Bool → List Bool → Replayer
replayer_at circuit input begun state = record {
  circuit = circuit;
  input = input;
  begun = begun;
  state = state;
  marked = state;
  stepped = false;
  watched = unstable_variables (network_of circuit) input state;
}

-- a replayer that begins in a state
abbrev pub initial_replayer : Netlist → List Bool → List Bool → Replayer
initial_replayer circuit input state = replayer_at circuit input state state

-- of each variable whether it was watched, is not among those that a step changes, and is unstable after it
abbrev pub watched_after : Replayer → List ℕ → List Bool
watched_after now flips =
    map
    (λ i. (bit_at now.watched i && not (is_listed flips i))
    && is_unstable (network_of now.circuit) now.input (state_after flips now.state) i)
    (range_with_len 0 (length (network_of now.circuit)))

-- a replayer after one step more
abbrev pub replayer_after : Replayer → List ℕ → Replayer
replayer_after now flips = record now {
  state = state_after flips now.state;
  stepped = true;
  watched = watched_after now flips;
}
