-- The names that most proofs cite, passed on from one place
pub mod Words
-- The variables that pass a test: which they are, that none comes twice, and how they are marked one after the other
pub mod FilteredRangeLemmas
-- What the ranks of Algorithm A say of a stable start: which inputs turn, and that what a wire or a gate needs in order to turn has a lesser rank
pub mod RanksOrderGates
-- Variables in a list, by their places
pub mod ListPlaces
-- The list that follows the links: one more variable, and how many there may be
pub mod Links
-- Variables that are listed by number: those with a key are, and what stands between two that are listed has none
pub mod ListedKeys
-- Sorting variables by a key and then by number: a list of those whose key is not 0, in that order
pub mod SortLemmas
-- Turns in the order of a key: who has had one and whose comes next, and that they keep what each turn keeps
pub mod Order
-- How many flips a run has, by how often it changes each variable, and the state in which it ends
pub mod FlipCounts
-- One more step of a run, and the room that a run takes: since no step is empty, room for its flips is room for its steps
pub mod Room
-- A gate's turn: the wires that set its pattern, and then the gate with what goes along, are two steps of a run
pub mod GateTurn
-- A loop over the places of an order: what holds at a place, and that a gate's turn, or none, leads to the next one
pub mod TurnLoop
-- A node's fan-out ascends, so the gate and those of its fan-out that pass a test may be marked one after the other
pub mod FanOut
-- The spread run while it is made: what holds after each of its steps, and that each of its steps keeps it
pub mod SpreadLoop
-- The spread run of a change: its steps have room, it ends as it should, and there is one
pub mod SpreadSteps
-- Algorithm A is exact: from a start that is stable under some input there is a spread run, and so each X of the result has both values in states that are reached
pub mod Exact
-- What the result of Algorithm B says of a state that refines it
pub mod SettledVariables
-- What holds inside a pass, before and after each gate's turn
pub mod PassInvariant
-- A gate's turn in a pass: each unsettled pin differs from its source, so the turn can be taken; what it makes of the state; and that what holds inside a pass holds again after it, with this gate among those that have had their turn
pub mod PassTurn
-- One more step of a run: how often variables have changed, where the run ends, and the states on the way
pub mod StepLemmas
-- A pass may begin in a turned state and ends in one, and a turned state is determined by its gates
pub mod TurnedStates
-- A pass while it is made: its steps so far are a run, how often each variable has changed in it, and which bits the wires of gates that have had their turn have shown; and that it ends as a pass
pub mod PassSteps
-- Where some list gives a gate a value there is a canonical pattern for it
pub mod PatternExists
-- The turns of a pass: what holds after so many variables of the order, that each turn has room and keeps it, and that there is a pass wherever one may begin
pub mod PassTurns
-- What the results of both algorithms and the ranks say of one change
pub mod ChangeResults
-- Two passes from a turned state lead back to it, and are the cycle of the change; and the room that they take
pub mod CycleExists
-- A settling round is a step, and settles its variables; the rounds can be made one after the other
pub mod RoundSteps
-- The loops over settling rounds: that a mark may be set, that each step has room, and what holds after it
pub mod RoundTurns
-- The settle run: after the spread run and the settling rounds a pass may begin, and the three together are the settle run
pub mod SettleRunExists
-- From every stable start, under every input, there are a settle run and a cycle at its end: the spread run, the settling rounds and one pass, and then two passes. They show that Algorithm B is exact
pub mod RunsExist
