-- The names that most proofs cite, passed on from one place
pub mod Words
-- A list of positions is as long as its list of ends
pub mod PositionList
-- The positions of pins: each stands in the list, and they stand in the order of their numbers
pub mod Sorted
-- From one position to another each pin advances once or stays
pub mod Onward
-- Moves of a gate's pins lead from one position to another, and back: each way is a part of walks, and each part of a walk a way
pub mod Moves
-- The table, place by place: the most from a place on follows from what is told of the later ones
pub mod Rows
-- Of each position of a gate's wires the orders of these wires say the same as all orders
pub mod OwnOrders
-- What is told of each position of a gate's wires
pub mod Places
-- Rows of letters along a run advance as often as their variables change
pub mod Tracked
-- Along every run that keeps the orders, and in which what is held stays, each word that is told covers the history of its variable
pub mod Under
-- The word of a gate bounds its changes under any orders, so words that are inductive are so under orders; and without orders back
pub mod Folded
-- All outcome states of runs that keep orders refine what words that are inductive under them narrow to
pub mod Outcomes
-- A run that keeps orders, and in which a wire is ideal, keeps the orders that follow from it
pub mod IdealWires
-- Orders that follow from a wire being ideal, by words that are told while its source is held
pub mod Following
-- A wire must move exactly if Algorithm B ends at its other value
pub mod Used
-- Numbers of changes that are enough for a variable under orders, by what drives it, and words that are told so far
pub mod Enough
-- What all kept outcomes refine, they refine if an X takes its excitation
pub mod Narrowed
-- Pins have a table or not, the orders whose gates have tables, and what they bound
pub mod WithTables
-- The history of a variable has as many changes as steps list it
pub mod History
-- One step more of a run that keeps orders
pub mod Steps
-- What was replayed, counted and looked at is a run that keeps the orders and comes to rest
pub mod Shown
