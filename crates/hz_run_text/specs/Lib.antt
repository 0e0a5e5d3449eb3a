-- Words, with their arguments, in the order in which one needs them.
--
-- most_steps: the limit
-- Variable, variable_named netlist variable: a node, or a wire as a pin of its gate
-- StatementOf, run_statement_of tokens: a statement of a run text
-- place_after place statement, first_misplaced place statements: the order of statements
-- ResolvedRunStatement, resolve_run_statement netlist statement: a statement by nodes, bits and variables
-- HasRunFault netlist text fault: the fault is in a run text
-- IsLeastRunFault netlist text fault, IsRunFaultless netlist text: the first fault, and none
-- RunTextOf: the start, the input and the runs
-- IsRunValue netlist text runs: the run text is what the text stands for
-- IsRunTextFor netlist runs: what holds of the run texts of a network
-- run_text netlist run, run_text_printed netlist runs: the text of a run, and of a run text

pub mod Limits
pub mod RunStatement
pub mod RunSize
pub mod RunResolution
pub mod VariablesRead
pub mod RunOrder
pub mod RunFault
pub mod RunRules
pub mod RunValue
pub mod RunText
pub mod RunPrinted
pub mod RunReadBack
pub mod RunInside
pub mod RunBuilt
