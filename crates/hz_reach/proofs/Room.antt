-- One more step of a run, and the room that a run takes: since no step is empty, room for its flips is room for its steps.
use Rattle.std.proofs.Common.{◌≡◌, ◌≢◌, ℕ, ◌+◌, ◌≤◌, Bool, List, [], ◌∷◌, ◌++◌, length, refl, ap, ◌∙◌, arith, append_assoc, length-append, sym}
use Rattle.hz_reach.proofs.Words.{sum_by-append, sum_by_push, Driver, state_after, IsStep, IsRun, end_of, RunRecord, flip_count, end_of-append}
use Rattle.hz_reach.proofs.Words.{IsRun-append, with_step_if_any, Spends, HasRoomForStep, HasRoomFor, state_after-none}
use Rattle.hz_reach.proofs.FlipCounts.{steps_below_flips}

-- one more step
pub end_of-after : (start : List Bool) (steps : List (List ℕ)) (flips : List ℕ) → end_of start (with_step_if_any steps flips) ≡ state_after flips (end_of start steps)
end_of-after start steps [] = sym (state_after-none 0 (end_of start steps))
end_of-after start steps (i ∷ flips) = end_of-append start steps ((i ∷ flips) ∷ [])

pub run-after : (net : List Driver) (input begun : List Bool) (steps : List (List ℕ)) (flips : List ℕ) → IsRun net input begun steps → (flips ≢ [] → IsStep net input (end_of begun steps) flips) → IsRun net input begun (with_step_if_any steps flips)
run-after net input begun steps [] run step = run
run-after net input begun steps (j ∷ flips) run step = IsRun-append net input begun steps ((j ∷ flips) ∷ []) run (step (λ e. cc), tt)

pub steps-after : (before steps : List (List ℕ)) (flips : List ℕ) → with_step_if_any (before ++ steps) flips ≡ before ++ with_step_if_any steps flips
steps-after before steps [] = refl
steps-after before steps (i ∷ flips) = append_assoc before steps ((i ∷ flips) ∷ [])

pub flips-after : (steps : List (List ℕ)) (flips : List ℕ) → flip_count (with_step_if_any steps flips) ≡ flip_count steps + length flips
flips-after steps [] = omega arith
flips-after steps (i ∷ flips) = sum_by_push (λ (list : List ℕ). length list) steps (i ∷ flips)

-- Room

pub room-for-step : (flips : List ℕ) (run : RunRecord) → HasRoomFor (length flips) run → HasRoomForStep flips run
room-for-step flips run room = record { flips_fit = room.flips; step_fits = λ some. omega (arith, some-length flips some, room.steps) }
  where
    some-length : (list : List ℕ) → list ≢ [] → 1 ≤ length list
    some-length [] some = absurd (some refl)
    some-length (x ∷ list) some = omega arith

-- what is left after a step
pub room-after : (flips : List ℕ) (more : ℕ) {old now : RunRecord} → now.steps ≡ with_step_if_any old.steps flips → Spends old now → HasRoomFor (length flips + more) old → HasRoomFor more now
room-after flips more {old} {now} steps spent room = record {
  flips = omega (arith, room.flips, spent.flips, ap flip_count steps, flips-after old.steps flips);
  steps = omega (arith, room.steps, spent.steps, ap (length {A = List ℕ}) steps, length-after old.steps flips);
}
  where
    length-after : (before : List (List ℕ)) (list : List ℕ) → length (with_step_if_any before list) ≤ length before + length list
    length-after before [] = omega arith
    length-after before (i ∷ list) = omega (arith, length-append before ((i ∷ list) ∷ []))

-- and after a run
pub room-left :
    (net : List Driver) (input begun : List Bool) (made : List (List ℕ)) {first now : RunRecord} {most : ℕ} (more : ℕ) →
    IsRun net input begun made → now.steps ≡ first.steps ++ made → Spends first now → HasRoomFor most first → flip_count made + more ≤ most →
    HasRoomFor more now
room-left net input begun made {first} {now} more run whole spent room few =
    let flips : flip_count now.steps ≡ flip_count first.steps + flip_count made =
    ap flip_count whole ∙ sum_by-append (λ (list : List ℕ). length list) first.steps made in
    let steps : length now.steps ≡ length first.steps + length made = ap (length {A = List ℕ}) whole ∙ length-append first.steps made in
    record {
      flips = omega (arith, few, room.flips, spent.flips, flips);
      steps = omega (arith, few, room.steps, spent.steps, steps, steps_below_flips net input begun made run);
    }

-- what is spent in two parts is spent
pub spends-none : (run : RunRecord) → Spends run run
spends-none run = record { flips = refl; steps = refl }

pub spends-more : {first middle last : RunRecord} → Spends first middle → Spends middle last → Spends first last
spends-more here there = record { flips = there.flips ∙ here.flips; steps = there.steps ∙ here.steps }
