-- What a move leaves: words, as many as before; and a move of one word alone
pub mod Moves
-- A potential of a gate: a number that each move lowers by at least the change that the gate makes, and some move by just that
pub mod Potentials
-- What the letters of words come to for a gate with a controlling letter, which alone gives the gate its value: 1 for OR, 0 for AND
pub mod Totals
-- A word that can advance and passes a test, found in a list of words, and the move in which it alone advances
pub mod Search
-- Parity: the most changes of a walk are the changes of all words together
pub mod Parity
-- A gate with a controlling letter: the most changes of a walk are told by the totals of the words
pub mod Controlled
-- The word of a kind over words: there is one, and it is the longest for parts of walks too
pub mod Longest
-- The letters of a word: the last one by the first one and the number of changes, and the complement of a word
pub mod Letters
-- The pins one after the other come to the capped form of the longest walk
pub mod Forms
-- What the pins come to, one after the other, is the capped form of the word of the kind
pub mod Folds
-- The laws that callers of this crate use: one word, parts of walks bounded by it, and completed
pub mod Laws
-- Numbers of changes that are at most others
pub mod AtMost
-- Words whose capped forms are given, as long as a run needs
pub mod Stretched
-- Walks, histories and capped forms worked by hand: the definitions compute them
mod Examples
