-- Attempts: runs of a change that leaves a variable unsettled, which may end in a stable state.
use Rattle.std.specs.Prelude.{ℕ, zero, suc, ◌*◌, Bool, not, List, [], ◌∷◌, ◌++◌, length, map, take, Option, Some, None, min, filter, nat_eq}
use Rattle.std.specs.Bool.{beq}
use Rattle.std.specs.List.{range_with_len, flat_map}
use lib.Pointwise.{pointwise}
use Rattle.hz_lists.specs.NumberSets.{least_of, greatest_of}
use Rattle.hz_net.specs.Network.{Driver}
use Rattle.hz_gmw.specs.Runs.{state_after, end_of}
use Rattle.hz_gmw.specs.Instability.{unstable_variables, unstable_count}
use Rattle.hz_desk.specs.Finding.{FindingOf}
use Rattle.hz_split.specs.declared.outcome.Outcome.{Outcome}
use Rattle.hz_split.specs.declared.outcome.Outcome.TheVariants.{Nowhere, OneState, Critical}
use Rattle.hz_split.specs.declared.pick.Pick.{Pick}
use Rattle.hz_split.specs.declared.pick.Pick.TheVariants.{Least, Greatest}

-- the least or the greatest marked variable
abbrev pub picked : Pick → List Bool → Option ℕ
picked Least marks = least_of marks
picked Greatest marks = greatest_of marks

-- a variable, if there is one, and what comes after it
abbrev pub turn_then : Option ℕ → (ℕ → List ℕ) → List ℕ
turn_then None after = []
turn_then (Some var) after = var ∷ after var

-- The variables that flip from a state on, in at most so many turns: in each turn the least or the greatest unstable variable flips
-- alone, until the state is stable.
abbrev pub turns_from : List Driver → List Bool → Pick → ℕ → List Bool → List ℕ
turns_from net input pick zero state = []
turns_from net input pick (suc most) state =
    turn_then (picked pick (unstable_variables net input state))
    (λ var. turns_from net input pick most (state_after (var ∷ []) state))

-- the steps of turns, in each of which one variable flips alone
abbrev pub flips_alone : List ℕ → List (List ℕ)
flips_alone turns = map (λ var. var ∷ []) turns

-- the run of an attempt: it begins with some steps, and then has at most twice as many turns as there are variables
abbrev pub attempt : List Driver → List Bool → List Bool → Pick → List (List ℕ) → List (List ℕ)
attempt net input start pick front =
    front ++ flips_alone (turns_from net input pick (2 * length net) (end_of start front))

-- the most states of a cycle from which attempts go
abbrev pub most_fronts : ℕ
most_fronts = 64

-- The steps to the first 64 states of the cycle: those of the settle run, and those of the cycle up to the state. The last state of the
-- cycle is its first one again, and is left out.
abbrev pub fronts : FindingOf → List (List (List ℕ))
fronts finding =
    map (λ steps. finding.settle ++ take steps finding.cycle)
    (range_with_len 0 (min (length finding.cycle) most_fronts))

-- all attempts: from each of these states two, first with the least and then with the greatest unstable variable
abbrev pub attempts : List Driver → List Bool → FindingOf → List (List (List ℕ))
attempts net start finding =
    flat_map
    (λ front. attempt net finding.input start Least front
    ∷ attempt net finding.input start Greatest front ∷ [])
    (fronts finding)

-- whether a state is stable
abbrev pub is_settled : List Driver → List Bool → List Bool → Bool
is_settled net input state = nat_eq (unstable_count net input state) 0

-- whether two states differ at some variable
abbrev pub is_other : List Bool → List Bool → Bool
is_other state other = not (pointwise beq state other)

-- of runs the first, and the first later one that ends in another state
abbrev pub first_and_other : List Bool → List (List (List ℕ)) → List (List (List ℕ))
first_and_other start [] = []
first_and_other start (run ∷ runs) =
    run ∷ take 1 (filter (λ later. is_other (end_of start run) (end_of start later)) runs)

-- The runs that are found: that of the first attempt that stops at a stable state, and that of the first later attempt that stops at
-- another stable state.
abbrev pub runs_found : List Driver → List Bool → FindingOf → List (List (List ℕ))
runs_found net start finding =
    first_and_other start
    (filter (λ run. is_settled net finding.input (end_of start run))
    (attempts net start finding))

-- what a search comes to, by the runs that are found
abbrev pub outcome_of : List (List (List ℕ)) → Outcome
outcome_of [] = Nowhere
outcome_of (run ∷ []) = OneState
outcome_of (run ∷ other ∷ runs) = Critical
