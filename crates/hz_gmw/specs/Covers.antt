-- What Algorithms A and B cover: the values that they find hold in all states that runs reach, or in all outcome states.
use Rattle.std.specs.Prelude.{◌≡◌, ℕ, Bool, List, length}
use Rattle.hz_core.specs.declared.tri.Tri.{Tri}
use Rattle.hz_core.specs.Ternary.{Refines}
use Rattle.hz_net.specs.Network.{Driver}
use Rattle.hz_net.specs.Passes.{algorithm_a, algorithm_b, AreRounds}
use Rattle.hz_net.specs.TernaryStarts.{algorithm_a_from, SettlesTo}
use Rattle.hz_gmw.specs.Runs.{IsReachable}
use Rattle.hz_gmw.specs.Cycles.{IsOutcome}

-- every state that is reachable from the start refines the result of Algorithm A
abbrev pub ACovers : Type 0
ACovers =
    (net : List Driver) (input start state : List Bool) (rounds : ℕ) → length start ≡ length net →
    AreRounds (algorithm_a net input start) rounds → IsReachable net input start state →
    Refines state (algorithm_a net input start rounds)

-- every outcome state refines each state of Algorithm B, from the result of Algorithm A
abbrev pub BCovers : Type 0
BCovers =
    (net : List Driver) (input start state : List Bool) (rounds round : ℕ) →
    length start ≡ length net →
    AreRounds (algorithm_a net input start) rounds → IsOutcome net input start state →
    Refines state (algorithm_b net input (algorithm_a net input start rounds) round)

-- Algorithm A covers from a ternary state: each binary state that refines it is a start
abbrev pub ACoversFrom : Type 0
ACoversFrom =
    (net : List Driver) (input : List Bool) (first : List Tri) (start state : List Bool)
    (rounds : ℕ) →
    length first ≡ length net → Refines start first →
    AreRounds (algorithm_a_from net input first) rounds →
    IsReachable net input start state → Refines state (algorithm_a_from net input first rounds)

-- and so does Algorithm B
abbrev pub BCoversFrom : Type 0
BCoversFrom =
    (net : List Driver) (input : List Bool) (first : List Tri) (start state : List Bool)
    (rounds round : ℕ) →
    length first ≡ length net → Refines start first →
    AreRounds (algorithm_a_from net input first) rounds →
    IsOutcome net input start state →
    Refines state (algorithm_b net input (algorithm_a_from net input first rounds) round)

-- every outcome state refines what the ternary state settles to
abbrev pub SettledCovers : Type 0
SettledCovers =
    (net : List Driver) (input : List Bool) (first settled : List Tri) (start state : List Bool) →
    length first ≡ length net → Refines start first → SettlesTo net input first settled →
    IsOutcome net input start state → Refines state settled
