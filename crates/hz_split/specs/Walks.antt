-- Looks at variables, one after the other. Words about the inside of hz_split.
use Rattle.std.specs.Prelude.{ℕ, Bool, List, fold, slice_set}
use Rattle.hz_net.specs.Network.{Driver}
use Rattle.hz_gmw.specs.Instability.{is_unstable}

-- marks in which each of the listed variables has a mark if it is unstable, and none otherwise
abbrev pub with_looks : List Driver → List Bool → List Bool → List Bool → List ℕ → List Bool
with_looks net input state marks list =
    fold (λ marks var. slice_set marks var (is_unstable net input state var)) marks list
