-- What holds below a number, and of it
pub mod Below
-- One flip more of a run that is tried, and how often it changes each variable
pub mod Tried
-- One more flip of a step that is counted, and one more step of a run
pub mod Counted
-- What was tried is a witness, if it shows the nodes and has settled; and what a settle run needs to be counted as one
pub mod Shown
-- Every change has a witness
pub mod WitnessExists
