-- Why a list is no step, and why the states since a mark are no nontransient cycle.
use Rattle.std.specs.Prelude.{◌≡◌, ◌≢◌, ℕ, ◌<◌, ◌≤◌, Bool, List, [], length, IsTrue, nat_eq, count_by}
use Rattle.hz_net.specs.Network.{Driver, bit_at, excitation, IsUnstable}
use Rattle.hz_lists.specs.Listed.{is_listed, IsRepeatFree}
use Rattle.hz_gmw.specs.Runs.{end_of}
use Rattle.hz_gmw.specs.Cycles.{Waits}
use Rattle.hz_lists.specs.Least.{IsLeast}
use Rattle.hz_gmw.specs.declared.replay_fault.StepFault.{StepFault}
use Rattle.hz_gmw.specs.declared.replay_fault.StepFault.TheVariants.{Empty, Repeated, Stable}
use Rattle.hz_gmw.specs.declared.replay_fault.CycleFault.{CycleFault}
use Rattle.hz_gmw.specs.declared.replay_fault.CycleFault.TheVariants.{Differs, NotStable, Transient}

-- how often a list names a variable
abbrev pub times_listed : List ℕ → ℕ → ℕ
times_listed flips i = count_by (nat_eq i) flips

-- Why a list is no step: it is empty; it names a variable twice, and this is the least such; it repeats none, and this is
-- the least variable in it that is stable.
abbrev pub IsStepFault : List Driver → List Bool → List Bool → List ℕ → StepFault → Type 0
IsStepFault net input state flips Empty = flips ≡ []
IsStepFault net input state flips (Repeated var) = IsLeast (λ i. 2 ≤ times_listed flips i) var
IsStepFault net input state flips (Stable var) =
    IsRepeatFree flips
    × IsLeast
    (λ i. IsTrue (is_listed flips i) × (bit_at state i ≡ excitation net input state i)) var

-- Why a run is no nontransient cycle: it ends in another state than it began with, and this is the least variable that
-- differs; it has no step, and this is the least variable that is unstable in its one state; it is a cycle with a step,
-- and this is the least variable that waits all around it.
abbrev pub IsCycleFault : List Driver → List Bool → List Bool → List (List ℕ) → CycleFault → Type 0
IsCycleFault net input state steps (Differs var) =
    IsLeast (λ i. bit_at (end_of state steps) i ≢ bit_at state i) var
IsCycleFault net input state steps (NotStable var) =
    (steps ≡ []) × IsLeast (λ i. (i < length net) × IsUnstable net input state i) var
IsCycleFault net input state steps (Transient var) =
    (end_of state steps ≡ state) × (steps ≢ [])
    × IsLeast (λ i. (i < length net) × Waits net input state steps i) var
