-- Words, with their arguments, in the order in which one needs them.
--
-- Observation: what the files show: the bytes under each name, and what was counted
-- IsJobOutcome told job status text: the outcomes of a job: which text comes with which status
-- LeavesFiles told job: what a call leaves of the counts, however it ends
-- RunsAs output faults told job was now status: what a call ensures
-- IsReached told job status reached: the file that a call worked on last, and the line of its text that a refusal names
-- IsFilesOutcome, IsFirstTextOutcome, IsSecondFileOutcome: the outcomes of its two files, one after the other
-- comes_of options task netlist text status line: the outcomes of the second text, by the task
-- good_of task netlist text status: nothing is to be refused of the second text, and the task ends with this status
-- IsFaultlessJob told job status: nothing is to be refused in the job, which ends with this status
-- Headline written faults told asked was now status: the headline of a call
-- IsExactReport options netlist_name netlist_text script_text report: the headline of a report
-- IsStoppedBy analyses number var: why a change is stopped
-- IsExact netlist input start finding: the headline of one change

pub mod Tasks
pub mod Outcome
pub mod LeftFiles
pub mod Faultless
pub mod Headline
pub mod Runs
pub mod Reached
