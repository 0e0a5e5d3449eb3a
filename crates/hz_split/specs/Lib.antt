-- Words, with their arguments, in the order in which one needs them.
--
-- picked pick marks: the least or the greatest unstable variable
-- turns_from net input pick most state: the variables that flip in the turns of an attempt
-- flips_alone turns: the steps of an attempt, one for each turn
-- fronts finding: the beginnings of attempts, one for each of the first 64 states of the cycle
-- attempts net start finding: the runs of all attempts, in their order
-- is_settled net input state: whether a state is stable
-- runs_found net start finding: the runs that are found, at most two
-- outcome_of runs: what a search comes to
-- IsSettledRun net input start run, AreSettledRuns net input start runs: what holds of runs that are found
-- SplitOf: a circuit, and the runs that are found
-- with_looks net input state marks list: marks after a look at listed variables
-- TrialOf: the last attempt; FoundOf: the runs that are found so far
-- with_run found run state: these runs with one more
-- HasRoomFor variables settle cycle front turns: a run fits into the room
-- walk_of, trial_of, found_of, split_of, and HoldsWalk, HoldsTrial, HoldsFound, HoldsSplit: what the code's structs hold

pub mod Attempts
pub mod Splits
pub mod Walks
pub mod Trials
pub mod FoundRuns
pub mod InsideWalk
pub mod InsideTrial
pub mod InsideFound
pub mod InsideSplit
