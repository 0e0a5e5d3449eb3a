-- The current state of a network as a replayer keeps it, and what is counted of it.
use Rattle.std.specs.Prelude.{◌≡◌, ℕ, ◌<◌, Bool, true, not, List, ◌∷◌, length, fold, count_by, slice_set, slice_index_or, nat_lt, if◌then◌else◌}
use Rattle.std.specs.List.{range_with_len}
use Rattle.hz_core.specs.declared.kind.Kind.{Kind}
use Rattle.hz_core.specs.Netlist.{Netlist, IsCircuit, IsWhole}
use Rattle.hz_net.specs.Network.{Function, network_of, driver_at, bit_at, excitation, IsState, IsInput}
use Rattle.hz_net.specs.Variables.{fan_out_of}
use Rattle.hz_net.specs.Reads.{readers_of}
use Rattle.hz_gmw.specs.Instability.{is_unstable, unstable_count}
use Rattle.hz_gmw.specs.declared.current_state.CurrentState.{CurrentState}

-- whether variable i is unstable in the current state
abbrev pub lags_in : Netlist → CurrentState → ℕ → Bool
lags_in netlist current = is_unstable (network_of netlist) current.input.items current.state.items

-- the excitation of variable i in the current state
abbrev pub excitation_in : Netlist → CurrentState → ℕ → Bool
excitation_in netlist current =
    excitation (network_of netlist) current.input.items current.state.items

-- a state with one variable flipped
abbrev pub with_flip : List Bool → ℕ → List Bool
with_flip state var = slice_set state var (not (bit_at state var))

-- one bit for each input and each variable of a whole circuit, and two counts for each node
pub record Fits (netlist : Netlist) (current : CurrentState) : Type 0 where
  pub circuit : IsCircuit netlist
  pub whole : IsWhole netlist
  pub input : IsInput netlist current.input.items
  pub state : IsState netlist current.state.items
  pub ones : length current.ones.items ≡ length netlist.names
  pub wires : length current.unstable_wires.items ≡ length netlist.names

-- What is counted of a state: how many wires of each gate are 1, and how many of the wires from each node are unstable.
pub record AreCounts (netlist : Netlist) (input state : List Bool)
    (at_one lagging : List ℕ) : Type 0 where
  pub ones : (gate : ℕ) (kind : Kind) (first pins : ℕ) →
      driver_at (network_of netlist) gate ≡ Function kind first pins →
      slice_index_or at_one gate 0 ≡ count_by (bit_at state) (range_with_len first pins)
  pub wires : (node : ℕ) → node < length netlist.names →
      slice_index_or lagging node 0
      ≡ count_by (is_unstable (network_of netlist) input state) (fan_out_of netlist node)

-- a gate has that many wires that are 1 in a state
abbrev pub AreOnes : Netlist → List Bool → ℕ → ℕ → Type 0
AreOnes netlist state gate ones =
    (kind : Kind) (first pins : ℕ) →
    driver_at (network_of netlist) gate ≡ Function kind first pins →
    ones ≡ count_by (bit_at state) (range_with_len first pins)

-- the counts of nodes are right
pub record IsCounted (netlist : Netlist) (current : CurrentState) : Type 0 where
  pub fits : Fits netlist current
  pub counts : AreCounts netlist current.input.items current.state.items current.ones.items
      current.unstable_wires.items

-- and so is the count of all unstable variables
pub record IsExact (netlist : Netlist) (current : CurrentState) : Type 0 where
  pub counted : IsCounted netlist current
  pub unstable : current.unstable
      ≡ unstable_count (network_of netlist) current.input.items current.state.items

-- a variable and those that read it: what may become stable or unstable when it changes
abbrev pub with_readers : Netlist → ℕ → List ℕ
with_readers netlist var = var ∷ readers_of netlist var

-- how many variables are unstable among a node and the wires from it; a wire counts with its node
abbrev pub unstable_from : Netlist → List Bool → List Bool → ℕ → ℕ
unstable_from netlist input state var =
    if nat_lt var (length netlist.names)
    then count_by (is_unstable (network_of netlist) input state) (var ∷ fan_out_of netlist var)
    else 0

-- marks with those of a list set
abbrev pub with_marks : List Bool → List ℕ → List Bool
with_marks marks list = fold (λ marks var. slice_set marks var true) marks list

-- a state in which listed variables have the values that they have in another
abbrev pub with_bits_of : List Bool → List Bool → List ℕ → List Bool
with_bits_of given state list =
    fold (λ state var. slice_set state var (bit_at given var)) state list
