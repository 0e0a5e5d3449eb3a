-- Wires by numbers of pins
pub mod VariableLemmas
-- What stands at each place of a run text in order
pub mod OrderLaws
-- The first answer of the passes over a run text is its least fault
pub mod RunFaultLaws
-- Runs that are built statement by statement, and the prefix of a run text in order
pub mod RunBuildLaws
-- Runs of which the last one goes on, and the places of their steps
pub mod RunBuilderLaws
-- The value of a text without a fault is a run text of the network
pub mod RunUsableLaws
-- The steps of one run among those of all
pub mod RunPrintLemmas
-- The commonest line of a run text
pub mod RunLines
-- The lines of a printed run text are read as its statements
pub mod RunPrintedLines
-- A printed run text has no fault, and stands for the run text
pub mod RunPrintedLaws
