-- The gates that are held, as pairs, and the start that a lane lists with them
pub mod HeldLemmas
-- Letters as bytes
pub mod LetterLemmas
-- The words of outputs, and where their letters stand
pub mod OutputLemmas
-- The digits of a number and of the next one
pub mod DigitLemmas
-- Values of variables in all lanes, as they are kept one after the other
pub mod ColumnLemmas
-- Both values of an output in a lane, as a number of four bits
pub mod KeyLemmas
-- The line of a lane, output by output
pub mod LineLemmas
-- What a lane comes to
pub mod EndLemmas
-- Lanes that are loaded with patterns, one after the other
pub mod LaneLoads
-- What a pattern brings about where nothing is known of a start but the held gates
pub mod BroughtAbout
-- Lines of patterns one after the other
pub mod Joined
-- Blocks one after the other: their patterns, and the planes
pub mod BlockLaws
-- The text of patterns, by their endings
pub mod TextOf
-- Every pattern comes to an ending, also if it is never looked at
pub mod Exist
-- The text of patterns, by what was given and counted
pub mod Texts
-- What patterns bring about where nobody knows the start is right
pub mod RightResets
