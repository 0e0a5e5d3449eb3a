-- Algorithms A and B from a ternary state: a start of which only some values are known.
use Rattle.std.specs.Prelude.{◌≡◌, ℕ, ◌+◌, ◌≤◌, Bool, Option, Some, None, List, length, map}
use Rattle.std.specs.List.{slice_index_or, range_with_len}
use Rattle.hz_core.specs.declared.tri.Tri.{Tri}
use Rattle.hz_core.specs.declared.tri.Tri.TheVariants.{Unknown}
use Rattle.hz_core.specs.Ternary.{tri_of}
use Rattle.hz_net.specs.Network.{Driver}
pub use Rattle.hz_net.specs.Passes.{algorithm_a_from}
use Rattle.hz_net.specs.Passes.{algorithm_b, AreRounds, IsResult}

-- One ternary state settles to another under an input: Algorithm A leads from the first to a result, and Algorithm B from
-- there to the second.
pub record SettlesTo (net : List Driver) (input : List Bool)
    (first settled : List Tri) : Type 0 where
  pub spread : List Tri
  pub is_spread : IsResult (algorithm_a_from net input first) spread
  pub is_settled : IsResult (algorithm_b net input spread) settled

-- the value of a variable at a start of which nothing is known but what is held
abbrev pub held_value : Option Bool → Tri
held_value None = Unknown
held_value (Some bit) = tri_of bit

-- The unknown start: each node that is held has its bit, and every other variable is X, wires too.
abbrev pub unknown_start : List Driver → List (Option Bool) → List Tri
unknown_start net held =
    map (λ i. held_value (slice_index_or held i None)) (range_with_len 0 (length net))

-- each ternary state settles under each input
abbrev pub EachSettles : Type 0
EachSettles =
    (net : List Driver) (input : List Bool) (first : List Tri) → length first ≡ length net →
    (settled : List Tri) × SettlesTo net input first settled

-- and to one state alone, which has a value for each variable
abbrev pub SettlesOnce : Type 0
SettlesOnce =
    (net : List Driver) (input : List Bool) (first settled other : List Tri) →
    SettlesTo net input first settled → SettlesTo net input first other → settled ≡ other

abbrev pub SettlesWhole : Type 0
SettlesWhole =
    (net : List Driver) (input : List Bool) (first settled : List Tri) → length first ≡ length net →
    SettlesTo net input first settled → length settled ≡ length net

-- each pass ends after at most one round more than there are variables
abbrev pub RoundsAreFew : Type 0
RoundsAreFew =
    (net : List Driver) (input : List Bool) (first : List Tri) (rounds : ℕ) →
    length first ≡ length net →
    AreRounds (algorithm_a_from net input first) rounds → rounds ≤ length net + 1
