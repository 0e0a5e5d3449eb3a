-- Laws on how often runs change variables.
use Rattle.std.specs.Prelude.{◌≡◌, ℕ, ◌*◌, ◌%◌, ◌<◌, ◌≤◌, Bool, not, List, length, sum_by, ◌==◌, if◌then◌else◌}
use Rattle.std.specs.List.{range_with_len}
use Rattle.hz_core.specs.declared.tri.Tri.{Tri}
use Rattle.hz_core.specs.Ternary.{unknown_count}
use Rattle.hz_net.specs.Network.{Driver, bit_at, value_at}
use Rattle.hz_net.specs.Passes.{IsKnown}
use Rattle.hz_gmw.specs.Runs.{IsRun, end_of}
use Rattle.hz_gmw.specs.RunRecord.{flip_count}
use Rattle.hz_reach.specs.Spread.{changes_in, IsSpreadRun}

-- a run has as many flips as its variables have changes
abbrev pub FlipsAreChanges : Type 0
FlipsAreChanges =
    (net : List Driver) (input start : List Bool) (steps : List (List ℕ)) →
    IsRun net input start steps →
    flip_count steps ≡ sum_by (changes_in steps) (range_with_len 0 (length net))

-- no step is empty, so a run has no more steps than flips
abbrev pub StepsAreNoMoreThanFlips : Type 0
StepsAreNoMoreThanFlips =
    (net : List Driver) (input start : List Bool) (steps : List (List ℕ)) →
    IsRun net input start steps →
    length steps ≤ flip_count steps

-- a run that changes no variable more often than a number has at most so many flips for each variable
abbrev pub FlipsPerVariable : Type 0
FlipsPerVariable =
    (net : List Driver) (input start : List Bool) (steps : List (List ℕ)) (most : ℕ) →
    IsRun net input start steps →
    ((i : ℕ) → changes_in steps i ≤ most) → flip_count steps ≤ most * length net

-- a run that besides changes only variables which are X in a list has at most so many flips for each X
abbrev pub FlipsPerUnknown : Type 0
FlipsPerUnknown =
    (net : List Driver) (input start : List Bool) (steps : List (List ℕ)) (values : List Tri)
    (most : ℕ) →
    IsRun net input start steps → length values ≡ length net →
    ((i : ℕ) → IsKnown (value_at values i) → changes_in steps i ≡ 0) →
    ((i : ℕ) → changes_in steps i ≤ most) →
    flip_count steps ≤ most * unknown_count values

-- the spread run has as many flips as the result of Algorithm A has X
abbrev pub FlipsOfSpreadRun : Type 0
FlipsOfSpreadRun =
    (net : List Driver) (input start : List Bool) (a : List Tri) (steps : List (List ℕ)) →
    length a ≡ length net → IsSpreadRun net input start a steps → flip_count steps ≡ unknown_count a

-- after steps a variable has the complement of its first value exactly if they change it an odd number of times
abbrev pub EndsByChanges : Type 0
EndsByChanges =
    (start : List Bool) (steps : List (List ℕ)) (i : ℕ) → i < length start →
    bit_at (end_of start steps) i
    ≡ (if changes_in steps i % 2 == 1 then not (bit_at start i) else bit_at start i)
