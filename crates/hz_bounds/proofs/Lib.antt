-- The names that most proofs cite, passed on from one place
pub mod Words
-- A variable that Algorithm A keeps is told enough if it is told no change
pub mod Still
-- The word that its driver gives a variable, by what the variable is
pub mod Given
-- What is known, what is told many changes, and what keeps what is known
pub mod Known
-- Words for all variables that are inductive
pub mod WordsTold
-- A gate that is pushed one way by pins that change at most once changes at most once
pub mod OneWayFold
-- A gate that is pushed two ways changes at least twice along some walk
pub mod TwoWayFold
-- Where what is told and what the witness shows meet, the number is exact
pub mod Meeting
-- A gate whose word has two changes or more is turned by pins that went, and turned back by more, or by one that returns
pub mod TurnedBack
-- Places in a list, rows on the way, one step of a run or none, and how often a run changes a value at least
pub mod Steps
-- A feedback-free node whose word has two changes or more comes back in some run
pub mod FreeRun
-- There is an order of the feedback-free variables
pub mod OrderExists
-- Without feedback a word of two changes or more is shown by a run
pub mod ShownWords
