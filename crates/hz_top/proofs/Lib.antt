-- What is left of the counts of files: both stay, or that of the second, or the first file is a netlist
pub mod LeftFiles
-- What comes of each part of a job, put together
pub mod JobOutcomes
-- How a task ends on a second text of which nothing is to be refused
pub mod TextEnds
-- How a job ends in which nothing is to be refused but a step or a cycle, where memory does not run out and the output is taken
pub mod FaultlessEndings
-- The headline, from the answer of a call
pub mod Headlines
-- How far a call came, and what the last flush leaves of that
pub mod ReachedLemmas
