-- The names that most proofs cite, passed on from one place
pub mod Words
-- What the steps of a run make of a replayer, and where they are refused
pub mod ReplayerStepLemmas
-- The runs of a text, one after the other
pub mod RunSteps
-- A run is accepted or refused, and never both
pub mod Refusals
-- A variable that the first refusal of a run text names is one of the network
pub mod NamedVariables
-- The last of runs that are accepted may be written as a dump: each of its steps changes variables, none of them twice
pub mod DumpedRuns
-- One of both holds: a list of variables is a step or has a fault, a run is a nontransient cycle or has one, and so a run text of a network is accepted or refused
pub mod ReplayDecided
-- The counts in the line of a replay
pub mod ReplayCounts
-- Runs that are accepted are printed as a text that replays
pub mod ReadBack
