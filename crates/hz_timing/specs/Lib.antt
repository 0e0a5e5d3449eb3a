-- Words, with their arguments, in the order in which one needs them.
--
-- most_orders, most_ideals, most_starts, most_nth: the limits
-- TimedStatementOf, timed_statement_of tokens: a statement
-- ResolvedTimed, resolve_timed netlist statement: a statement by nodes, bits, variables and numbers
-- HasTimedFault again netlist text fault: the fault is in a text, in which a start may stand again or not
-- IsLeastTimedFault again netlist text fault, IsTimedFaultless again netlist text: the first fault, and none
-- TimedScriptOf: the assumptions and the scripts
-- IsTimedValue netlist text script: the script is what the text stands for
-- IsTimedScriptFor netlist script: what holds of the scripts with assumptions of a network
-- OfTimed again judge netlist text status written: its least fault, or what a judge says of its value
-- IsToldTimedLine holds status line: the line of the text that a refusal names
-- TimedStarted judge netlist script status text: a start is refused, or the judge goes on from the starts

pub mod Limits
pub mod TimedKeyword
pub mod TimedStatement
pub mod TimedResolution
pub mod VariableRead
pub mod TimedFault
pub mod TimedRules
pub mod TimedValue
pub mod TimedInside
pub mod TimedText
pub mod TimedReading
pub mod Timed
