-- Words, with their arguments, in the order in which one needs them.
--
-- EdgesOf: what is found of a change beside its finding: a word for each variable, one run, and its counts
-- range_at edges i: how often variable i changes, along that run and along every run
-- AreEdgesOfChange net cap input start a b edges: what is found so is right, beside the results of both algorithms

pub mod Edges
pub mod EdgesExist
pub mod Room
