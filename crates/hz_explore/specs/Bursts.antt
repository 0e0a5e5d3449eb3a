-- Bursts: changes of some inputs at once.
use Rattle.std.specs.Prelude.{ℕ, Bool, true, false, not, List, [], ◌∷◌, map}
use Rattle.std.specs.Bool.{beq}
use Rattle.std.specs.List.{flat_map, list_all, range_with_len}
use Rattle.hz_net.specs.Network.{bit_at}

-- an input does not have this bit yet
abbrev pub is_changed : List Bool → ℕ × Bool → Bool
is_changed state pair = not (beq (bit_at state pair.0) pair.1)

-- A burst applies to a state if it changes something, and each of its inputs changes by it.
abbrev pub applies : List Bool → List (ℕ × Bool) → Bool
applies state [] = false
applies state (pair ∷ pairs) = list_all (is_changed state) (pair ∷ pairs)

-- each input falls, and each rises
abbrev pub each_input : ℕ → List (ℕ × Bool)
each_input inputs = flat_map (λ i. (i, false) ∷ (i, true) ∷ []) (range_with_len 0 inputs)

-- each input alone
abbrev pub each_alone : List (ℕ × Bool) → List (List (ℕ × Bool))
each_alone pairs = map (λ pair. pair ∷ []) pairs

-- changes, or other bursts if there is no change
abbrev pub bursts_or : List (List (ℕ × Bool)) → List (List (ℕ × Bool)) → List (List (ℕ × Bool))
bursts_or [] alone = alone
bursts_or (change ∷ changes) alone = change ∷ changes

-- the bursts of a script: its changes, or each input alone if it has none
abbrev pub bursts_of : ℕ → List (List (ℕ × Bool)) → List (List (ℕ × Bool))
bursts_of inputs changes = bursts_or changes (each_alone (each_input inputs))
