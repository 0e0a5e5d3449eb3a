-- The names that most proofs cite, passed on from one place
pub mod Words
-- The start of a script is listed, and it is accepted or refused
pub mod AcceptedStarts
-- What a report may write: a finding that fits its network, and a variable that is there
pub mod Writable
-- The runs of a right finding are printed as a text that replays
pub mod FindingsReplay
-- The lines of one analysis more
pub mod ReportLines
-- A sequence that goes on by one change more
pub mod SequenceSteps
-- A script of one change
pub mod OneChangeScripts
-- The text of changes, of which the first that leaves a variable unsettled is the last that is made
pub mod SplitLines
-- The runs of a change that end in stable states are accepted by a replay; and when a change may be split
pub mod SplitRuns
