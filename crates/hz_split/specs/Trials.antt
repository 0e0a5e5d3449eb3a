-- An attempt that was made. Words about the inside of hz_split.
use Rattle.std.specs.Prelude.{ℕ, Bool, List}
use Rattle.hz_core.specs.Netlist.{Netlist}

-- the last attempt on a circuit: the variables that flipped, and the state after them
pub record TrialOf : Type 0 where
  pub circuit : Netlist
  pub turns : List ℕ
  pub state : List Bool
