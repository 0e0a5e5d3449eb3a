-- The names that most proofs cite, passed on from one place
pub mod Words
-- Passes with a test that sees the statements before answer the least line
pub mod BehindLaws
-- The pass over the starts answers the least input that is left out
pub mod MissingLaws
-- The first answer of the passes is the least fault
pub mod FaultLaws
-- The assumptions of statements without a fault are assumptions on the network
pub mod AssumptionLaws
-- The scripts of statements without a fault are scripts of the network
pub mod PartLaws
-- Where a start may not stand again there is one
pub mod OneStart
-- What holds of a text in which no pass finds a fault
pub mod ReadLaws
-- Orders and wires without delay, by the variables that a line begins with
pub mod StatementLaws
-- What a refusal says
pub mod TimedLaws
-- One entry more or less of those that were read
pub mod EntryLaws
-- A text has one least fault
pub mod UniqueLaws
