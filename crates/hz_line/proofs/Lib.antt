-- The first line of a text
pub mod LineLemmas
-- The tokens of a line, from the front
pub mod TokenLemmas
-- Lines and tokens of a text that is written: what a printer's law stands on
pub mod WrittenLemmas
-- The statements of a text ascend by their lines, and the first that passes a test is the least
pub mod StatementLemmas
-- The first fault that is found, number by number, is the least of all
pub mod LeastLaws
