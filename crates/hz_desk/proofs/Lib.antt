-- The rows that lists of values and words stand for
pub mod RowLists
-- What lists tell that variables rest at, and the rows of variables that do
pub mod RestLists
-- A follower goes along a run and counts its race states
pub mod RaceLoop
-- Runs cut in two, runs that begin alike, and a step that is undone
pub mod CommonSteps
-- Algorithm B begins with the result of Algorithm A, and stays below it
pub mod BelowA
-- The three runs have few steps
pub mod FewSteps
-- What is known of each variable before its class is
pub mod RowFacts
-- A finding that is filled is right
pub mod RightFindings
-- The class of a variable is the one in the table, so a variable has one
pub mod ClassTable
-- A right finding for every change: each of its parts is there
pub mod FindingsExist
