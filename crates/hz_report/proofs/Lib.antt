-- The size of a network by the counts of its circuit, and its nodes
pub mod Lines
-- The lines of rows, row by row, and which rows are shown
pub mod RowLemmas
-- What comes in a feedback cycle is a variable of the network
pub mod CycleLemmas
-- Counts of classes, row by row
pub mod ClassLemmas
-- Texts of parts: where each part stands, and what a text is once the middle of one is written over
pub mod PartLemmas
-- The lines and words that are kept, node by node, and what is written of them
pub mod KeptLemmas
-- The lines that are kept while rows are put over them: which of them stay
pub mod ShownLemmas
