-- Words, with their arguments, in the order in which one needs them.
--
-- FollowsFrom net input start wire order: every run along which the wire is ideal keeps the order
-- AreFound net input start assumptions found idle: the orders that assumptions come to in a change, and how many are idle
-- AreUsed net input start cap assumptions told used idle: those of them whose gate has a table are used
-- AreEdgesUnder orders net input start ends kept edges: what is told of edges is right of all runs that keep the orders
-- ChangeOf: what is found of a change
-- IsRightChange netlist cap assumptions found: it is right
-- IsNextStart netlist ends next, IsStopper netlist input ends var: where the next change starts, or what stops it
-- AreEdgeAnalyses netlist cap assumptions start changes analyses: what changes come to, one after the other
-- CanBeMade making, IsChangeRoom netlist room: changes can be made, in this memory
-- change_of room: what was found last; Leads netlist found room: where it leads
-- found_text netlist show assumptions number change found: the lines of one change
-- IsEdgeReport options netlist starts script text: the report of a script: all that is found in it is right
-- ChangesExist: every change comes to something

pub mod UsedOrders
pub mod OrderedEdges
pub mod EdgeChanges
pub mod EdgeText
pub mod EdgeReports
pub mod ChangesExist
pub mod Room
pub mod Passed
pub mod Using
pub mod Going
pub mod StartFaults
