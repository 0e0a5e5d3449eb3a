-- A list that is cut at ends: one part more
pub mod PartLemmas
-- A script with one change more
pub mod ScriptLemmas
-- The script of statements: its start, and its changes so far
pub mod ChangeLemmas
-- The first answer of the passes over a script is its least fault
pub mod FaultLaws
-- What holds of a script in which the passes find no fault
pub mod ReadLaws
-- The lines of a printed script are read as its statements
pub mod StatementLines
-- A printed script has no fault, and stands for the script
pub mod PrintLaws
