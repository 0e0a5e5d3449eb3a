-- The first answer of the passes over a text of patterns is its least fault
pub mod PatternFaultLaws
-- Patterns in a list of their bits, and what holds of a text of patterns in which the passes find no fault
pub mod PatternBuildLaws
-- The lines of printed patterns, as the writer is given them
pub mod PatternPrintLemmas
-- Printed patterns have no fault, and stand for the patterns
pub mod PatternPrintedLaws
-- Lines of patterns that agree with lines of zeros
pub mod PatternModelLaws
-- A text behind lines that are statements: what its lines are in the whole text
pub mod BehindLaws
-- A text whose first lines are printed patterns: its faults and its value, by what is read of the rest
pub mod PatternBehindLaws
