-- The rounds in which variables settle. Words about the inside of this crate.
use Rattle.std.specs.Prelude.{◌≡◌, ◌≢◌, ℕ, ◌<◌, ◌≤◌, Bool, not, List, ◌++◌, length, slice_index}
use Rattle.std.specs.List.{filter}
use Rattle.hz_core.specs.declared.tri.Tri.{Tri}
use Rattle.hz_core.specs.Ternary.{admits, AllBelow, Refines}
use Rattle.hz_net.specs.Network.{Driver, bit_at, value_at}
use Rattle.hz_net.specs.Passes.{excitations, algorithm_b, IsResult, AreSettlingRounds}
use Rattle.hz_gmw.specs.Runs.{IsRun, end_of}
use Rattle.hz_reach.specs.Order.{key_at}
use Rattle.hz_reach.specs.Spread.{changes_in}

-- of listed variables those whose bit is not that of their value
abbrev pub differing_variables : List Tri → List Bool → List ℕ → List ℕ
differing_variables b state list =
    filter (λ var. not (admits (value_at b var) (bit_at state var))) list

-- The variables of one round: those of an order from a place up to another one, where the next round begins.
pub record IsOneRound (when order : List ℕ) (place next : ℕ) : Type 0 where
  pub more : place < next
  pub inside : next ≤ length order
  pub same : (k : ℕ) → place ≤ k → k < next →
      key_at when (slice_index order k) ≡ key_at when (slice_index order place)
  pub beyond : next < length order →
      key_at when (slice_index order next) ≢ key_at when (slice_index order place)

-- Algorithm B from a list that lies above its excitations, with its settling rounds, and a state that refines the list
pub record AreRoundsOf (net : List Driver) (input : List Bool) (a : List Tri) (when : List ℕ)
    (b : List Tri) (state : List Bool) : Type 0 where
  pub long : length a ≡ length net
  pub above : AllBelow (excitations net input a) a
  pub result : IsResult (algorithm_b net input a) b
  pub rounds : AreSettlingRounds (algorithm_b net input a) a b when
  pub refined : Refines state a

-- A run that settles what Algorithm B settles: its last state refines the result, and it changes each variable at most
-- once, and only those with a settling round.
pub record IsSettlingRun (net : List Driver) (input : List Bool) (when : List ℕ) (b : List Tri)
    (begun : List Bool) (made : List (List ℕ)) (state : List Bool) : Type 0 where
  pub run : IsRun net input begun made
  pub ends : end_of begun made ≡ state
  pub values : Refines state b
  pub once : (i : ℕ) → changes_in made i ≤ 1
  pub still : (i : ℕ) → key_at when i ≡ 0 → changes_in made i ≡ 0

-- the steps of a run after the rounds
pub record AreRoundsMade (when : List ℕ) (b : List Tri) (begun : List Bool)
    (before after : List (List ℕ)) (state : List Bool) : Type 0 where
  pub made : List (List ℕ)
  pub whole : after ≡ before ++ made
  pub settling :
      (net : List Driver) (input : List Bool) (a : List Tri) →
      AreRoundsOf net input a when b begun →
      IsSettlingRun net input when b begun made state
