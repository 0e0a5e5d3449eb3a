-- What a follower of runs keeps.
use Rattle.std.specs.Prelude.{ℕ, Bool, List}
use Rattle.hz_core.specs.Netlist.{Netlist}
use Rattle.hz_gmw.specs.Runs.{state_after}

-- the circuit, the external input and the current state
pub record FollowerOf : Type 0 where
  pub circuit : Netlist
  pub input : List Bool
  pub state : List Bool

-- a follower in a state
abbrev pub follower_at : Netlist → List Bool → List Bool → FollowerOf
follower_at circuit input state = record { circuit = circuit; input = input; state = state }

-- a follower after one step more
abbrev pub follower_after : FollowerOf → List ℕ → FollowerOf
follower_after now flips = record now { state = state_after flips now.state }
