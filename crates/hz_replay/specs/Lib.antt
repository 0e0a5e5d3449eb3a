-- Words, with their arguments, in the order in which one needs them.
--
-- IsReplayOutcome netlist runs status line: the verdict on it
-- IsAcceptedRun net input start run: the lead is a run, and the cycle a nontransient cycle
-- IsFirstRefusal net input start runs number refused: the first run that is refused, and why
-- accepted_line runs, no_line netlist number refused: the lines of the verdict
-- IsConvertOutcome netlist runs status text: the conversion
-- Replayed judge netlist runs status text: the first refusal, or what a judge says of runs that are accepted
-- IsVcdOutcome netlist runs status text: the last run as a dump
-- MakesSteps was now steps: what the code's replay does in terms of a replayer's state

pub mod Replaying
pub mod ReplayerSteps
pub mod Verdict
pub mod RunTexts
pub mod Dumps
pub mod Named
