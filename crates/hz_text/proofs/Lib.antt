-- Which nodes are assigned, and which twice
pub mod NodeLemmas
-- Assignments as pairs of a node and a bit, and the bits that they give
pub mod BuildLemmas
-- Passes that answer the least place of their kind, one after the other, answer the least fault
pub mod LeastFault
-- What each text of statements has: where each pass answers the least place of its kind, what is answered is the least fault
pub mod TextLaws
-- What the passes over assignments answer, and what holds of assignments in which they find nothing
pub mod PassLaws
-- What a start lists, entry by entry
pub mod PrintLemmas
-- The tokens of printed assignments
pub mod WordLaws
-- What a start lists is read back
pub mod ListedLaws
-- Lines that are printed one after the other are read as statements, each on a line of its own
pub mod PrintedLines
-- Decimal digits are read back
pub mod DecimalLemmas
-- The words of variables, by what a variable is
pub mod VariableWords
