-- The names that most proofs cite, passed on from one place
pub mod Words
-- Where no variable is unstable, the next change may start
pub mod NextStart
-- Orders that are found to be used, one assumption after the other
pub mod UsedMore
-- What is told under orders, and a run that keeps them, are right edges under the orders
pub mod OrderedRight
-- What is found of a change is printed as a run that replays
pub mod ChangesReplay
-- Every change comes to something
pub mod ChangesThere
-- What a room holds is found of the same change, by other names
pub mod FoundRooms
-- What is found of a change names variables, and leads somewhere
pub mod Leading
-- The changes so far, and what the changes that are left come to
pub mod FirstEdges
-- The parts so far, and what the parts that are left come to
pub mod PartEdges
-- The lines of variables, line by line
pub mod EdgeLines
-- Lines that are there only if orders are used, or if something is assumed
pub mod OrderLines
-- The lines of changes and of parts, one after the other
pub mod ReportLines
-- The first start that can't be completed is refused
pub mod FirstFaults
