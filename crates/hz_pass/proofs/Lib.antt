-- Lists of ternary values, place by place
pub mod Places
-- How one round changes one value, and what variables weigh that later rounds may still change
pub mod Values
-- One variable more in a round: what is known of the round stays known
pub mod Evaluations
-- Lists of the variables that may still change: one variable more, or final values, keep what is known; where all that is listed is made, every variable is
pub mod OpenLists
-- A round that evaluates every variable, or the readers of what the round before changed, makes the whole next state
pub mod WholeRounds
-- The rounds of a pass: what is known after some of them, and that a round more keeps it
pub mod PassLoop
-- The values that a round changed, taken over into the state, and the round noted at them
pub mod ChangedValues
-- How many evaluations a pass makes: the first round's, and one for each reader of each variable that changes
pub mod StepCounts
-- From a start that is stable under its own inputs, a round of Algorithm A changes no variable but inputs
pub mod StableStarts
-- What the rounds of a pass say of Algorithms A and B: results, ranks and settling rounds
pub mod PassResults
-- The loop that forces values: that each of its steps keeps what is known, and what is known at its end
pub mod ForcingLoop
-- No gate function is constant: where every pin is X, the extension is X
pub mod AllOpen
-- A value that is carried along a fan-out and to cuts: what is known after some of them, and that one more keeps it
pub mod Delivery
-- The lists of cuts by their data nodes: that a cut more keeps what is known of them
pub mod CutLists
-- The loop that sets the listed values, and what is known before any of them is carried on
pub mod ListedLoop
-- What forced values make of a start: the least open gate, the completed state, the least unstable gate
pub mod CompletedLemmas
-- A gate that is not listed is stable in a completed start
pub mod Unlisted
-- Every listing of the inputs is open, unstable or accepted
pub mod Decided
-- The sweep over the nodes: what holds before it, after each wire and each node, and at its end
pub mod SweepLemmas
