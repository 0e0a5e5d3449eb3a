-- Words, with their arguments, in the order in which one needs them.
--
-- AreCounts net steps counts: in how many of its steps a run changes each variable
-- IsTried net input start steps state counts: a run from the start, its last state, and its counts
-- DoNodesChange net a counts: each node that is X in the result of Algorithm A has changed
-- AreSettled net input b state: what must settle has settled
-- ShowsNodes net a steps: the same of a run
-- IsWitness net input start a b steps counts: one run that shows the change of each node that can change, and settles
-- WitnessesExist: every change has one

pub mod Witness
pub mod Existence
