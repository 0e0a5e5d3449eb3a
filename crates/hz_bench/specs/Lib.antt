-- Words, with their arguments, in the order in which one needs them.
--
-- Statement: an input, an output, a flip-flop or a gate, by its names
-- statement_of tokens: the statement of a line
-- bench_statements text: the statements of a text, with their lines
-- defined_name statement, used_names statement: what it defines and uses
-- elements_of statements: the elements of a circuit that statements are
-- circuit_of_statements statements: the circuit of these elements
-- Has holds line text, Defines text line name: the line has a statement of which this holds, or that defines the name
-- bench_row fault: all that is said of a fault
-- IsLeastBy bench_row text fault, NoneStands bench_row text (hz_netlist): the least fault of a text, or none
-- IsNetlistRefusal text fault: the least fault, or memory ran out
-- netlist_text netlist: the text of a circuit
-- first_fault statements: the first fault, as a function
-- definer statements name: the line that defines a name first
-- definitions_of statements, uses_of statements: the names that statements define and use, with their lines
-- with_statement names one: the table of names with those of a statement
-- notes_of statements: what is kept of statements for the faults of a single line
-- twice_fault statements: the first name that is defined again
-- IsParsed text statements: what one pass over a text keeps
-- AreGathered done statements: the same for a part of the text
-- AddsStatement old next new: what the pass does with one statement
-- fault_in statements: the first fault of what was kept
-- IsAccepted text statements: a text without a fault
-- drafted_of statements: what was read, as the draft that all formats have

pub mod Statement
pub mod Form
pub mod Text
pub mod Entry
pub mod Head
pub mod Definition
pub mod Names
pub mod Twice
pub mod Pass
pub mod Check
pub mod FaultNotes
pub mod FaultIn
pub mod ReaderState
pub mod Fault
pub mod Netlist
pub mod Draft
pub mod Printed
