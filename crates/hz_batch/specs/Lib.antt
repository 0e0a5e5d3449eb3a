-- Words, with their arguments, in the order in which one needs them.
--
-- AreEach of patterns things: one thing for each pattern
-- listing_of held pattern: the start that a pattern lists
-- PatternEnd, IsPatternEnd netlist held pattern ending: what a pattern comes to
-- ArePatternEnds netlist held patterns endings: each pattern comes to one
-- letter_byte value, letter_value byte: the letter of a value as a byte, and the value that it says
-- outputs_line netlist number values, output_values netlist first second: the line of a number, in which each output has two values
-- LineOf: what contracts see of such a line before its number is known
-- ending_line netlist number ending: the line of a pattern
-- counts_line endings: the last line
-- IsBatchText netlist patterns text: the text of patterns
-- IsBroughtAbout netlist held pattern values: what a pattern brings about from the unknown start
-- unknown_line patterns unknown: the last line of these
-- IsResetText netlist patterns text: the text of what patterns bring about
-- WroteBatch output faults text was now result: the text was written, or a prefix of it
-- IsBatchOutcome netlist patterns status text: the text of patterns
-- IsResetOutcome netlist patterns status text: the text of what they bring about, and that each value is right
-- block_count patterns, block_of patterns block: patterns in blocks of 512
-- planes_after patterns was blocks: the planes after so many blocks

pub mod Each
pub mod PatternEnd
pub mod Letters
pub mod Outputs
pub mod DigitsInside
pub mod LineInside
pub mod BatchText
pub mod ResetText
pub mod Blocks
pub mod Answer
pub mod Comes
pub mod Laws
pub mod Held
pub mod Counts
pub mod Columns
pub mod Keys
pub mod Kept
pub mod Lines
pub mod Inside
pub mod Written
pub mod Batches
pub mod Resets
