-- Words, with their arguments, in the order in which one needs them.
--
-- most_changes: the limit
-- Keyword, ScriptStatement, script_statement_of tokens: a start or a change
-- ResolvedStatement, resolve_statement netlist statement: a statement by nodes and bits
-- HasScriptFault netlist text fault: the fault is in a script
-- IsLeastScriptFault netlist text fault, IsScriptFaultless netlist text: the first fault, and none
-- ScriptOf: the start and the changes
-- IsValue netlist text script: the script is what the text stands for
-- IsScriptFor netlist script: what holds of the scripts of a circuit
-- script_text netlist script: the text of a script

pub mod Limits
pub mod ScriptValue
pub mod Inside
pub mod Statement
pub mod Resolution
pub mod ScriptFault
pub mod ScriptRules
pub mod ScriptText
pub mod ScriptReading
pub mod ScriptPrinted
