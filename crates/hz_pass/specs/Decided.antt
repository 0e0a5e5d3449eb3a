-- What becomes of a listing of values: a node is open, or a gate is unstable, or a start is accepted.
use Rattle.std.specs.Prelude.{◌≡◌, ℕ, ◌⊎◌, Bool, Option, List, length}
use Rattle.hz_core.specs.Netlist.{Netlist, IsCircuit}
use Rattle.hz_net.specs.Starts.{ListsInputs, IsAcceptedStart, IsLeastOpen, IsLeastUnstable}

-- some node is open
abbrev pub HasOpenNode : Netlist → List (Option Bool) → Type 0
HasOpenNode netlist listed = (node : ℕ) × IsLeastOpen netlist listed node

-- no node is open, and some gate is unstable at the completed start
abbrev pub HasUnstableGate : Netlist → List (Option Bool) → Type 0
HasUnstableGate netlist listed = (gate : ℕ) × IsLeastUnstable netlist listed gate

-- the completed start is accepted
abbrev pub GivesStart : Netlist → List (Option Bool) → Type 0
GivesStart netlist listed = (state : List Bool) × IsAcceptedStart netlist listed state

-- one of three holds, and no two of them
pub record IsOneOfThree (first second third : Type 0) : Type 0 where
  pub one : first ⊎ (second ⊎ third)
  pub not_first_and_second : first → second → ⊥
  pub not_first_and_third : first → third → ⊥
  pub not_second_and_third : second → third → ⊥

-- Every listing that lists each input that is no cut is open, unstable or accepted, and exactly one of these.
abbrev pub StartsAreDecided : Type 0
StartsAreDecided =
    (netlist : Netlist) (listed : List (Option Bool)) → IsCircuit netlist →
    length listed ≡ length netlist.names →
    ListsInputs netlist listed →
    IsOneOfThree (HasOpenNode netlist listed) (HasUnstableGate netlist listed)
    (GivesStart netlist listed)
