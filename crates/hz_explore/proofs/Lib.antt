-- The names that most proofs cite, passed on from one place
pub mod Words
-- States that are found one after the other
pub mod FoundLemmas
-- The transitions of a state, burst after burst
pub mod TransitionLemmas
-- An exploration state by state
pub mod ProgressLemmas
-- A change that uses no order: what is found of it is right of all runs
pub mod PlainLemmas
-- A clean transition: each node changes at most once in it, along every run that keeps the orders it uses
pub mod SafeLemmas
-- In a transition that settles each node is steady or counted
pub mod ToldLemmas
-- An exploration that is done: if no state was left out, it has every state to which bursts come
pub mod ExplorationLemmas
-- Every burst from a stable state comes to something, by the law of changes
pub mod StepLemmas
-- The lines of states, one state after the other
pub mod TextLemmas
-- Transitions that are made one after the other, and their lines
pub mod MakesLemmas
-- Where an exploration stands
pub mod FrontLemmas
-- The bursts of a script: how many there are, and which inputs they name
pub mod BurstLemmas
-- Counts of the classes of nodes
pub mod CountLemmas
-- One transition that is made, and its line
pub mod ChangeLemmas
-- The only part of a script
pub mod OnlyParts
-- The numbers of assumptions, one after the other
pub mod NumberLemmas
-- A room before and after a change
pub mod RoomLemmas
