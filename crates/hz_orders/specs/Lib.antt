-- Words, with their arguments, in the order in which one needs them.
--
-- IsOrderOf net order: an order of two wires of one gate
-- KeepsOrder start steps order: a run does not change the second wire n times before it has changed the first
-- Keeps orders start steps: a run keeps all orders
-- IsUsed net input start order: the first wire must move in the change, so the order is not idle
-- IsKeepingPart orders wire words moves: a part of a walk that keeps the orders after each move
-- IsMostUnder orders kind wire words most: how often a gate changes at most along such parts
-- IsCountUnder orders kind wire pins cap count: the same for pins, up to a cap
-- IsBoundUnder orders kind wire pins cap bound: a gate changes at most so often along all such parts
-- IsInductiveHolding held orders net input start cap told: each word is enough for what drives its variable, but for those held
-- IsInductiveUnder orders net input start cap told: the same if none is held
-- IsKeptOutcome orders net input start state: an outcome state of runs that keep the orders
-- narrowings net input first round: each X takes its excitation, and 0 and 1 stay
-- IsIdeal net input start steps wire: a wire that changes in each step from a state in which it is unstable
-- FollowsFromIdeal orders net input start cap order: the order follows from its first wire being ideal
-- GrowsByFollowing change wire old new: orders that follow from a wire being ideal are added
-- positions_of pins: how often each pin's word may have advanced
-- HaveTable pins: there are few positions
-- HasTableAt net told order: the gate of an order has a table
-- AreTabled net told orders tabled: the orders of a list whose gates have tables
-- IsWay orders wire pins position way: a way through positions that keep the orders
-- IsMostFrom orders kind wire pins position most: how often a gate changes at most along the ways from a position
-- AreToldSoFar telling told: words in the making, one for each variable
-- IsToldEnough telling told i: the word of variable i is enough, or the variable is held
-- CoversKept change values: ternary values that all states round the cycles of kept outcomes refine

pub mod Orders
pub mod Parts
pub mod Inductive
pub mod Outcomes
pub mod Ideal
pub mod Following
pub mod Positions
pub mod Tabled
pub mod Tables
pub mod Telling
pub mod Ends
-- Words, with their arguments, in the order in which one needs them.
--
-- IsKeptRun orders net input start steps: a run that keeps the orders, and in whose last state no variable is unstable
-- IsRestingRun net input start steps: a run in whose last state no variable is unstable
-- KeepsByCounts counts order: a state in which the order is kept, by how often each variable has changed
-- KeepsUpTo number steps order: the order is kept after each of the first steps, by how many of them list each wire
-- IsNoted variables marks order: the wires of the order are below a number, and the second is marked

pub mod Kept
pub mod Counted
