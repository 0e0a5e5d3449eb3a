-- Lists of words as they are kept, and the words that are in them
pub mod KeptWords
-- Kahn's order: telling a reader keeps what is known of the order
pub mod Kahn
-- Counting what each variable reads, and the variables that read nothing
pub mod Counting
-- Chains of readers: what reads only feedback-free variables is feedback-free, what reads one that is not is not, and what holds of a feedback-free variable if it holds of those that it reads
pub mod Chains
-- The finished order is the feedback-free part: what is not in it reads something that is not in it
pub mod Parts
-- Paths along links: one variable more, the way from a variable on a path, what leads to it, and paths that come around
pub mod PathLemmas
-- Feedback cycles by their definition: a variable has one choice, cycles are closed under choice, and two that share a variable are the same
pub mod FeedbackCycles
-- A path that is followed: it begins with no variable, and takes one more that has no mark
pub mod FollowedPaths
-- Roots: the way back from each variable ends in a variable of a cycle
pub mod Roots
-- The cycles one after the other: the path from the least variable of a cycle along those that chose is the cycle
pub mod Numbering
-- What was found is all: every feedback cycle is listed, and each variable that is not feedback-free has its core
pub mod FoundCycles
-- Where each variable is feedback-free there is no feedback cycle
pub mod NoFeedback
-- A network has one list of feedback cycles, and each variable one core
pub mod OneList
-- Each network of wires has a list of its feedback cycles
pub mod Existence
-- What a variable chooses, by its driver and by marks of the feedback-free variables
pub mod Choices
-- A list of cycles is as long as its list of ends
pub mod CycleList
-- Notes on variables, one after the other: a value that they have, and which variable chose another one
pub mod NotedValues
-- The words of a gate's wires, gathered, and the word of the gate
pub mod GateWords
-- The word of a variable, once all that it reads have one
pub mod NextWord
-- The words one after the other: one more, and all
pub mod AllWords
-- A variable follows its excitation: along a run it changes at most as often as that did one step before, but for one change if it began unstable
pub mod Delays
-- Rows of letters that change along a run are a part of a walk, if each column changes at most as often as its word
pub mod Columns
-- The words of the feedback-free variables are words, and begin as the variables at the start
pub mod Covered
-- Along every run each word that is told covers the history of its variable
pub mod Inductively
-- The words of the feedback-free variables are enough for these, whatever the other variables are told
pub mod FreeWords
-- What is enough for a variable: many changes for each, and none for one that Algorithm A keeps
pub mod Enough
-- A walk ends at the last letters: so the word of a gate ends with the gate value of the last letters
pub mod LastLetters
-- The words agree with the passes: a word ends with B's value, and it has a change exactly where A is X
pub mod Agreement
-- A word has a change exactly if Algorithm A makes its variable X
pub mod Changing
-- The laws that callers of this crate use
pub mod Laws
-- There is an order of the feedback-free variables of every network, and there are words of them
pub mod WordsExist
-- The words one after the other, as the loop tells them
pub mod ToldWords
