-- Words, with their arguments, in the order in which one needs them.
--
-- IsReport options netlist start changes text: the report of its changes: every finding in it is right
-- analysis_text netlist show number change analysis: the lines of one change
-- IsDemoOutcome number cap status text: the outcomes of a demo
-- SplitsChanges cap netlist start changes status text: the two runs of the first change that leaves a variable unsettled

pub mod Reports
pub mod Splits
pub mod Unsettled
pub mod Demos
