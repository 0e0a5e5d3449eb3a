-- Words, with their arguments, in the order in which one needs them.
--
-- applies state burst: a burst changes something, and each of its inputs changes by it
-- bursts_of inputs changes: the bursts of a script: its changes, or each input alone
-- Settles netlist state burst next: a burst settles in a state, whatever the delays
-- SettlesUnder netlist cap assumptions state burst next: it does under assumptions of time
-- IsReachedState settles bursts start state: bursts that settle so lead there, one after the other
-- Transition, Outcome: what one burst comes to
-- AreTransitions netlist cap assumptions bursts state transitions: one for each burst that applies
-- transition_count netlist transition: it is clean, has a hazard, or does not settle
-- Explored: a state and its transitions
-- BringsTo netlist explored state burst next: runs that keep the orders of the burst's transition come to a state
-- IsOfAllRuns netlist bursts start explored: what an exploration without assumptions says of all runs
-- IsExploration netlist cap assumptions bursts start explored: all states that bursts lead to, as far as there is room, with their transitions
-- exploration_text netlist assumptions explored: its lines
-- IsExploreReport options netlist starts script text: the report of the job

pub mod Limits
pub mod Bursts
pub mod Reached
pub mod Transitions
pub mod Counts
pub mod Exploration
pub mod ExploreText
pub mod ExploreReports
pub mod Progress
pub mod Inside
