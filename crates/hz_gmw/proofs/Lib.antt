-- The state after a step, place by place
pub mod Flips
-- Algorithm A covers: every reachable state refines its result
pub mod CoverA
-- Runs one after another, and the states on the way
pub mod Paths
-- Algorithm B covers: every outcome state refines each state of its sequence
pub mod CoverB
-- Both algorithms cover from a ternary state: what begins with a state that refines it refines their states
pub mod CoverFrom
-- Bits that are compared
pub mod Bits
-- Sets of variables: the list has the marked ones, whatever is put in or taken out
pub mod SetLemmas
-- The least of listed numbers that pass a test, and the least that is listed twice
pub mod LeastLemmas
-- Sums over numbers below a bound and over lists that repeat nothing: what a change at some numbers does to them
pub mod Counting
-- Marks with those of a list set
pub mod Marks
-- The value of a gate by its count of ones
pub mod GateOnes
-- The variables around a variable of a network, each once
pub mod DriverLemmas
-- What leaves a variable as stable as it was: a change of variables that it doesn't read, or of another external input
pub mod Unchanged
-- What is counted of a state, after one variable or one input changes
pub mod Counts
-- The loops over the current state: what is known after some variables, and that one more keeps it
pub mod CurrentStateLemmas
-- The watched variables: how many there are, and which are left after a step
pub mod WatchLemmas
-- Each wire counts with its source: sums over all nodes
pub mod NodeSums
-- What a replayer stands for: after a mark, after a step, and what that tells of the cycle since the mark
pub mod ReplayLemmas
-- What a run's fields hold: the vectors count it, and the step with a number stands where its ends say
pub mod RunLemmas
