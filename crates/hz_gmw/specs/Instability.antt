-- The unstable variables of a state, one by one and counted.
use Rattle.std.specs.Prelude.{◌≢◌, ℕ, ◌<◌, Bool, not, List, length, map, count_by, IsTrue}
use Rattle.std.specs.Bool.{beq}
use Rattle.std.specs.List.{range_with_len}
use Rattle.hz_core.specs.Netlist.{Netlist}
use Rattle.hz_net.specs.Network.{Driver, network_of, bit_at, excitation}

-- whether variable i is unstable
abbrev pub is_unstable : List Driver → List Bool → List Bool → ℕ → Bool
is_unstable net input state i = not (beq (bit_at state i) (excitation net input state i))

-- of each variable whether it is unstable
abbrev pub unstable_variables : List Driver → List Bool → List Bool → List Bool
unstable_variables net input state =
    map (is_unstable net input state) (range_with_len 0 (length net))

-- how many variables are unstable
abbrev pub unstable_count : List Driver → List Bool → List Bool → ℕ
unstable_count net input state =
    count_by (λ unstable. unstable) (unstable_variables net input state)

-- a variable that is unstable, and another one than a given number
pub record IsOtherUnstable (netlist : Netlist) (input state : List Bool) (but i : ℕ) : Type 0 where
  pub inside : i < length (network_of netlist)
  pub other : i ≢ but
  pub unstable : IsTrue (is_unstable (network_of netlist) input state i)
