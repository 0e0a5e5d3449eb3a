-- The names that most proofs cite, passed on from one place
pub mod Words
-- Steps one after the other
mod Steps
-- The marks of unstable variables, when a variable flips
mod WalkLemmas
-- Attempts are runs, and those that stop end in stable outcome states
mod AttemptLemmas
-- One run more
mod FoundLemmas
-- What a right finding says of its runs: their steps change variables that are there, and each once, and they are few
mod RunFacts
-- The runs that are found are those of the definition: those that stand for the attempts so far, and for all of them
mod FoundWhole
-- Attempts that stop end in stable outcome states, and two that are found in different ones
pub mod OutcomeRuns
