-- Runs cut in two, runs that begin alike, and a step that is undone.
use Rattle.std.proofs.Common.{◌≡◌, ◌∙◌, refl, sym, ap, subst, ℕ, suc, ◌+◌, ◌<◌, ◌≤◌, Bool, List, [], ◌∷◌, ◌++◌, length, take, drop, get_or, arith, length-append}
use Rattle.std.specs.List.{slice_range}
use Rattle.std.proofs.Math.Seq.{drop-cons}
use Rattle.std.proofs.lemmas.List.{drop_all, take-append-drop, take-append-le}
use Rattle.std.proofs.lemmas.Slice.{between_from_start}
use Rattle.hz_core.specs.Netlist.{Netlist}
use Rattle.hz_net.specs.Network.{Driver}
use Rattle.hz_gmw.specs.Runs.{state_after, end_of, IsStep, IsRun}
use Rattle.hz_gmw.specs.Cycles.{states_of}
use Rattle.hz_gmw.specs.Follower.{FollowerOf, follower_at}
use Rattle.hz_gmw.proofs.Paths.{end_of-append, IsRun-front, IsRun-rest}
use Rattle.hz_reach.specs.Room.{with_step_if_any}
use Rattle.hz_desk.specs.Races.{race_count, states_before}
use Rattle.hz_desk.specs.RunProgress.{IsShortRun, BeginAlike}
use Rattle.hz_desk.proofs.RaceLoop.{count-cons}

-- the race states of a run in two parts
count-parts : (net : List Driver) (input state : List Bool) (front back : List (List ℕ)) → race_count net input (states_before state front) + race_count net input (states_of (end_of state front) back) ≡ race_count net input (states_of state (front ++ back))
count-parts net input state [] back = omega arith
count-parts net input state (flips ∷ front) back =
    omega (arith, count-cons net input state (states_before (state_after flips state) front), count-cons net input state (states_of (state_after flips state) (front ++ back)), count-parts net input (state_after flips state) front back)

-- a short run is cut in two short ones
pub record IsCut (net : List Driver) (input start : List Bool) (steps front back : List (List ℕ)) : Type 0 where
  pub short_front : IsShortRun net input start front
  pub short_back : IsShortRun net input (end_of start front) back
  pub ends : end_of (end_of start front) back ≡ end_of start steps
  pub counted : race_count net input (states_before start front) + race_count net input (states_of (end_of start front) back) ≡ race_count net input (states_of start steps)

cut-parts : (net : List Driver) (input start : List Bool) (front back : List (List ℕ)) → IsShortRun net input start (front ++ back) → IsCut net input start (front ++ back) front back
cut-parts net input start front back short = record {
  short_front = record { run = IsRun-front net input start front back short.run; short = omega (arith, short.short, length-append front back) };
  short_back = record { run = IsRun-rest net input start front back short.run; short = omega (arith, short.short, length-append front back) };
  ends = sym (end_of-append start front back);
  counted = count-parts net input start front back;
}

pub cut-at : (net : List Driver) (input start : List Bool) (steps : List (List ℕ)) (number : ℕ) → IsShortRun net input start steps → IsCut net input start steps (take number steps) (drop number steps)
cut-at net input start steps number short =
    let whole : take number steps ++ drop number steps ≡ steps = take-append-drop number steps in
    subst (λ (list : List (List ℕ)). IsCut net input start list (take number steps) (drop number steps)) whole
    (cut-parts net input start (take number steps) (drop number steps) (subst (IsShortRun net input start) (sym whole) short))

-- the second of two runs that begin alike, and the first
pub cut-second : (net : List Driver) (input start : List Bool) (first second : List (List ℕ)) (common : ℕ) → BeginAlike first second common → IsShortRun net input start second → IsCut net input start second (slice_range second 0 common) (drop common second)
cut-second net input start first second common alike short =
    subst (λ (front : List (List ℕ)). IsCut net input start second front (drop common second)) (sym (between_from_start second common)) (cut-at net input start second common short)

pub cut-first : (net : List Driver) (input start : List Bool) (first second : List (List ℕ)) (common : ℕ) → BeginAlike first second common → IsShortRun net input start first → IsCut net input start first (slice_range second 0 common) (drop common first)
cut-first net input start first second common alike short =
    subst (λ (front : List (List ℕ)). IsCut net input start first front (drop common first)) (alike.same ∙ sym (between_from_start second common)) (cut-at net input start first common short)

-- a step more, or none, leaves the beginning
alike-step : (steps : List (List ℕ)) (flips : List ℕ) → BeginAlike (with_step_if_any steps flips) steps (length steps)
alike-step steps [] = record { same = refl; inside = omega arith; few = omega arith }
alike-step steps (i ∷ flips) = record {
  same = take-append-le (length steps) steps ((i ∷ flips) ∷ []) (omega arith);
  inside = omega arith;
  few = omega (arith, length-append steps ((i ∷ flips) ∷ []));
}

pub alike-added : {first second before : List (List ℕ)} (flips : List ℕ) → first ≡ with_step_if_any before flips → second ≡ before → BeginAlike first second (length second)
alike-added {first} {second} {before} flips more same =
    subst (λ (list : List (List ℕ)). BeginAlike list second (length second)) (sym more)
    (subst (λ (list : List (List ℕ)). BeginAlike (with_step_if_any before flips) list (length list)) (sym same) (alike-step before flips))

-- and so do steps after the second run
pub alike-more : (first second whole made : List (List ℕ)) → whole ≡ second ++ made → BeginAlike first second (length second) → BeginAlike first whole (length second)
alike-more first second whole made is alike =
    subst (λ (list : List (List ℕ)). BeginAlike first list (length second)) (sym is) record {
      same = alike.same ∙ sym (take-append-le (length second) second made (omega arith));
      inside = omega (arith, length-append second made);
      few = alike.few;
    }

-- where a follower is after some steps
pub at-end : {circuit : Netlist} {input start : List Bool} (before after : FollowerOf) (steps : List (List ℕ)) → before ≡ follower_at circuit input start → after.circuit ≡ before.circuit → after.input ≡ before.input → after.state ≡ end_of before.state steps → after ≡ follower_at circuit input (end_of start steps)
at-end {circuit} {input} {start} before after steps was on under ends =
    let parts : Netlist → List Bool → List Bool → FollowerOf = follower_at in
    ap (λ (n : Netlist). parts n after.input after.state) on ∙
    (ap (λ (i : List Bool). parts before.circuit i after.state) under ∙
    (ap (λ (s : List Bool). parts before.circuit before.input s) ends ∙
    ap (λ (f : FollowerOf). parts f.circuit f.input (end_of f.state steps)) was))

-- one step is left
last-is : (steps : List (List ℕ)) (from : ℕ) (flips : List ℕ) → from < length steps → length steps ≤ from + 1 → flips ≡ get_or steps from [] → drop from steps ≡ flips ∷ []
last-is steps from flips below few is =
    drop-cons steps from [] below
    ∙ (ap (λ (list : List (List ℕ)). get_or steps from [] ∷ list) (drop_all (suc from) steps (omega (arith, few)))
    ∙ ap (λ (f : List ℕ). f ∷ []) (sym is))

pub last-step : (net : List Driver) (input state : List Bool) (steps : List (List ℕ)) (from : ℕ) (flips : List ℕ) → from < length steps → length steps ≤ from + 1 → flips ≡ get_or steps from [] → IsRun net input state (drop from steps) → IsStep net input state flips
last-step net input state steps from flips below few is run = (subst (IsRun net input state) (last-is steps from flips below few is) run).0
