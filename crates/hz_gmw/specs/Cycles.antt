-- Cycles of the multiple-winner relation, the transient ones among them, and the outcome states.
use Rattle.std.specs.Prelude.{◌≡◌, ℕ, ◌<◌, Bool, List, [], length, Contains}
use Rattle.std.specs.List.{AllByRecursion}
use Rattle.hz_net.specs.Network.{Driver, bit_at, IsUnstable, IsStable}
use Rattle.hz_gmw.specs.Runs.{IsRun, end_of, IsReachable}
-- the states of a run, for those who speak of cycles
pub use Rattle.hz_gmw.specs.Runs.{states_of}

-- A cycle: a run with a step that ends where it began, or one stable state alone.
pub record IsCycle (net : List Driver) (input state : List Bool)
    (steps : List (List ℕ)) : Type 0 where
  pub run : IsRun net input state steps
  pub closed : end_of state steps ≡ state
  pub alone : steps ≡ [] → IsStable net input state

-- variable i waits in a run at a value: it has this value in all its states, and is unstable in all of them
abbrev pub WaitsAt : List Driver → List Bool → List Bool → List (List ℕ) → ℕ → Bool → Type 0
WaitsAt net input state steps i bit =
    AllByRecursion (λ now. (bit_at now i ≡ bit) × IsUnstable net input now i)
    (states_of state steps)

-- variable i waits in a run: at one value or the other
abbrev pub Waits : List Driver → List Bool → List Bool → List (List ℕ) → ℕ → Type 0
Waits net input state steps i = (bit : Bool) × WaitsAt net input state steps i bit

-- a cycle is transient if some variable waits all around it: its delay would have to be without end
abbrev pub IsTransient : List Driver → List Bool → List Bool → List (List ℕ) → Type 0
IsTransient net input state steps = (i : ℕ) × (i < length net) × Waits net input state steps i

-- a cycle that is not transient
pub record IsNontransient (net : List Driver) (input state : List Bool)
    (steps : List (List ℕ)) : Type 0 where
  pub cycle : IsCycle net input state steps
  pub lasts : IsTransient net input state steps → ⊥

-- An outcome state: some run from the start comes to a state of a nontransient cycle, and a run goes from there to it.
pub record IsOutcome (net : List Driver) (input start state : List Bool) : Type 0 where
  pub first : List Bool
  pub steps : List (List ℕ)
  pub cycle : IsNontransient net input first steps
  pub member : List Bool
  pub on_cycle : Contains (states_of first steps) member
  pub reached : IsReachable net input start member
  pub onward : IsReachable net input member state
