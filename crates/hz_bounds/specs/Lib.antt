-- Words, with their arguments, in the order in which one needs them.
--
-- IsOneWay kind start ends: pins that go from some letters to others push a gate one way
-- IsTwoWay kind start ends: some pins turn a gate, and more turn it back
-- IsMostChanges net input start i most: the greatest number of changes of variable i along a run
-- range_from changes count: how often a variable changes, from below and from above
-- edge_class_of start end range: what a range comes to
-- CanBeTold telling: what words are told from, a start, an input and a cap, is right for its network
-- AreToldSoFar telling told: words of all variables in the making
-- WordsAreTold: every change can be told words that are inductive

pub mod OneWay
pub mod Ranges
pub mod Telling
pub mod Existence
