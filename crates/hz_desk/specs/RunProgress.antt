-- Runs of a length that a number of 32 bits counts, how far a follower went along one, and runs that begin alike. Words about
-- the inside of hz_desk.
use Rattle.std.specs.Prelude.{◌≡◌, ℕ, ◌+◌, ◌≤◌, Bool, List, length, take}
use Rattle.hz_net.specs.Network.{Driver}
use Rattle.hz_gmw.specs.Runs.{IsRun, end_of}
use Rattle.hz_desk.specs.Races.{race_count, states_before}

-- the most steps of a short run
abbrev pub most_short_steps : ℕ
most_short_steps = 1000000

-- a short run
pub record IsShortRun (net : List Driver) (input start : List Bool)
    (steps : List (List ℕ)) : Type 0 where
  pub run : IsRun net input start steps
  pub short : length steps ≤ most_short_steps

-- After some steps of a run the follower is in a state from which the rest goes on, and has counted so many race states
-- before it.
pub record IsAlong (net : List Driver) (input start : List Bool) (steps rest : List (List ℕ))
    (races : ℕ) (state : List Bool) : Type 0 where
  pub run : IsRun net input state rest
  pub ends : end_of state rest ≡ end_of start steps
  pub counted : races + race_count net input (states_before state rest)
      ≡ race_count net input (states_before start steps)
  pub few : races + length rest ≤ most_short_steps

-- Two runs begin with the same steps, so many of them, and the first run has at most one step more.
pub record BeginAlike (first second : List (List ℕ)) (common : ℕ) : Type 0 where
  pub same : take common first ≡ take common second
  pub inside : common ≤ length second
  pub few : length first ≤ common + 1
