-- The runs that are found so far, and the room for more. Words about the inside of hz_split.
use Rattle.std.specs.Prelude.{ℕ, ◌*◌, ◌≤◌, Bool, List, [], ◌∷◌, ◌++◌, length, take, slice_index_or, if◌then◌else◌}
use Rattle.hz_gmw.specs.RunRecord.{flip_count}
use Rattle.hz_gmw.specs.Runs.{state_after, end_of}
use Rattle.hz_net.specs.Network.{Driver}
use Rattle.hz_split.specs.Attempts.{is_other, is_settled, turns_from, flips_alone, most_fronts}
use Rattle.hz_split.specs.declared.pick.Pick.{Pick}
use Rattle.hz_split.specs.declared.pick.Pick.TheVariants.{Least, Greatest}

-- the runs that are found on a network of so many variables, and the state in which the first one ends
pub record FoundOf : Type 0 where
  pub variables : ℕ
  pub runs : List (List (List ℕ))
  pub ending : List Bool

-- these runs with one more, which ends in a state: the first one, or a second one if it ends elsewhere
abbrev pub found_with : FoundOf → List (List (List ℕ)) → List (List ℕ) → List Bool → FoundOf
found_with found [] run state = record found { runs = run ∷ []; ending = state }
found_with found (first ∷ []) run state =
    if is_other found.ending state then record found { runs = first ∷ run ∷ [] } else found
found_with found (first ∷ second ∷ runs) run state = found

abbrev pub with_run : FoundOf → List (List ℕ) → List Bool → FoundOf
with_run found run state = found_with found found.runs run state

-- these runs after the turns of an attempt from a state: with its run, if the attempt stops at a stable state
abbrev pub with_turns : List Driver → List Bool → List (List ℕ) → List Bool → List (List ℕ) →
    FoundOf → FoundOf
with_turns net input front here turns found =
    if is_settled net input (end_of here turns)
    then with_run found (front ++ turns) (end_of here turns) else found

-- these runs after an attempt from the state in which its first steps end
abbrev pub with_attempt : List Driver → List Bool → Pick → List (List ℕ) → List Bool → FoundOf →
    FoundOf
with_attempt net input pick front here found =
    with_turns net input front here (flips_alone (turns_from net input pick (2 * length net) here))
    found

-- these runs after two attempts from each of some states of a cycle: those before the steps with these numbers, the first of which is here
abbrev pub with_attempts : List Driver → List Bool → List (List ℕ) → List (List ℕ) → List ℕ →
    List Bool → FoundOf → FoundOf
with_attempts net input settle cycle [] here found = found
with_attempts net input settle cycle (number ∷ numbers) here found =
    with_attempts net input settle cycle numbers (state_after (slice_index_or cycle number []) here)
    (with_attempt net input Greatest (settle ++ take number cycle) here
    (with_attempt net input Least (settle ++ take number cycle) here found))

-- a run fits: it has few steps, and few flips in them
pub record HasRoomFor (variables : ℕ) (settle cycle : List (List ℕ)) (front : ℕ)
    (turns : List ℕ) : Type 0 where
  pub inside : front ≤ length cycle
  pub few_fronts : front ≤ most_fronts
  pub settle_flips : flip_count settle ≤ 2 * variables
  pub settle_steps : length settle ≤ 2 * variables
  pub cycle_flips : flip_count cycle ≤ 4 * variables
  pub few_turns : length turns ≤ 2 * variables
