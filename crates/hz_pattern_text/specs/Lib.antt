-- Words, with their arguments, in the order in which one needs them.
--
-- most_patterns: the limit
-- PatternStatementOf, pattern_statement_of tokens: what is held, or a pattern by its two words
-- bits_word bits, is_bits_word inputs word: the word of bits, and whether a word is one
-- resolve_pattern_statement netlist statement: a statement by nodes and bits, and words
-- HasPatternFault netlist text fault: the fault is in a text of patterns
-- IsLeastPatternFault netlist text fault, IsPatternFaultless netlist text: the first fault, and none
-- PatternOf, PatternsOf: a pattern, and what is held with the patterns
-- bits_of_pattern pattern: its bits
-- IsPatternsValue netlist text value: the patterns are what the text stands for
-- ArePatternsFor netlist value: what holds of the patterns of a circuit
-- patterns_text netlist value: the text of patterns

pub mod Limits
pub mod PatternStatement
pub mod PatternWord
pub mod PatternResolution
pub mod PatternFault
pub mod PatternValue
pub mod PatternText
pub mod PatternRules
pub mod PatternPrinted
pub mod PatternInside
pub mod PatternModel
pub mod PatternReading
pub mod PatternReader
