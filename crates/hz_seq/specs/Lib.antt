-- Words, with their arguments, in the order in which one needs them.
--
-- changed_input input change: the input with the assignments of a change
-- IsFindingOfChange netlist cap start change finding: a finding is right for a change
-- IsFirstUnknown b i: the first variable that is X
-- IsSettledAt b state: the state in which a change settles, if it leaves no X
-- Analysis: a change was made, with its finding, or it was stopped by a variable
-- AreAnalyses netlist cap start changes analyses: those of changes, one after the other
-- SequenceState: a desk, the start of the next change, and the variable that stops
-- IsLeftBy finding old new: what a change leaves
-- GoesOn cap change analysis old new: a sequence goes on by a change
-- HoldsSequence fields, LeavesSequence: what the code's Sequence holds

pub mod Sequence
pub mod Analyses
pub mod Inside
pub mod Lent
