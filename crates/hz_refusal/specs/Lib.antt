-- Words, with their arguments, in the order in which one needs them.
--
-- code_of status: the exit status
-- IsCutShort status: the output was not taken, or memory ran out
-- Answers written faults comes was now status: a text that comes with this status was written, or a prefix of one
-- WroteWhole, WrotePrefix: the two cases
-- CountTells was now status: the sink's count rose if the output failed, and else it is as it was
-- IsTextOutcome called holds stands_for judge: its least fault, or what a judge says of its value
-- IsToldLine holds status line: the line of the text that a refusal names
-- OfScript judge, OfRuns judge: the same of a script and of a run text
-- Started judge netlist script status text: the start is refused, or the judge goes on from it
-- text_fault_line name netlist fault: the line of a refusal
-- LoadPrints place fault status text, and the like: what is written of a refusal

pub mod Ending
pub mod Answer
pub mod Ends
pub mod Refusal
pub mod Second
pub mod Refused
