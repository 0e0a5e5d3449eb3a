-- A result of Algorithm B without X is a stable start, under its own inputs, which are the new input
pub mod NextStart
-- What the loop over the values knows
pub mod Settling
-- What a finding leaves, in the words of the code
pub mod FindingEffects
-- The analyses of the changes so far, for a loop that makes one change after the other
pub mod FirstAnalyses
-- Analyses of every list of changes, if there is a right finding for every change
pub mod Existence
