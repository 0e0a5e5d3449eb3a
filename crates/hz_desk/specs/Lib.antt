-- Words, with their arguments, in the order in which one needs them.
--
-- FindingOf: what is found of a change: rows, rounds, the new input, three runs, race counts
-- IsClass start a b changes class: the class of a variable
-- AreRowsOf start a b words rows: the values of variables and their classes
-- is_race net input state, race_count net input states: two or more variables are unstable
-- AreChanges net input start cap changes: the numbers of changes of the feedback-free variables
-- IsRightFinding net input start cap finding: every part of it is right for this change
-- FindingsExist: there always is one
-- OneClass: no variable has two classes
-- finding_of finding: what the fields of the code's Finding stand for
-- class_in_table start a b changes: the class that the code gives a variable
-- rows_of start a b words: the rows that the lists of a finding stand for
-- AreRowsOfChange net input start cap rows: the rows hold the words of the variables
-- IsFilled netlist input start cap finding: what the analysis leaves in it, which makes it right
-- AreRuns net input start a b spread settle cycle: the three runs of a change
-- AreRacesOf net input start spread settle cycle ..: their race states
-- ArePassResults netlist input start a ranks b when rounds_a rounds_b: the results of both algorithms
-- HavePassRoom, HasRunRoom, HasRooms, IsRoomFor: there is room for the analysis of every change
-- DeskOf, LeavesDesk: what the code's Desk holds, and what it leaves behind
-- IsAlong net input start steps rest races state: how far a follower has gone along a run
-- BeginAlike first second common: two runs begin with the same steps

pub mod Class
pub mod Races
pub mod Finding
pub mod RightFinding
pub mod Rows
pub mod ClassTable
pub mod RowsOf
pub mod RestsOf
pub mod ResultsOfPasses
pub mod Room
pub mod RoomFor
pub mod Desk
pub mod Lent
pub mod FindingRoom
pub mod RunProgress
pub mod Filled
pub mod Existence
