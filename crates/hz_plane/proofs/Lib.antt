-- Words and their bits
pub mod Words
-- Lists of pairs: one more pair
pub mod PlaneLists
-- Sets of lanes: a lane more, a lane less, and no lane
pub mod LaneSets
-- Eight lanes at once: a byte of a word, and bits that are put into a byte one after the other
pub mod ByteLemmas
-- What one lane lists, and what all others list, as items are written one after the other
pub mod LoadLemmas
-- Lanes that are loaded from a list of bits: eight at once, and one lane after the other
pub mod BlockLoads
-- Faults as they are noted, lane by lane
pub mod FaultNotes
-- Where each node is known in each lane, and each gate is its own excitation, no lane has a fault
pub mod NoFaults
-- The lanes of planes: the bits of one lane, and the ternary values that they make
pub mod Bits
-- A step over planes is the same step in each lane
pub mod LaneSteps
-- The values of nodes as values of all variables, and how the network excites them
pub mod Wholes
-- Steps of the rule Widen that come to rest, in whatever order, give what Algorithm A gives
pub mod SpreadSteps
-- Steps of the rule Narrow that come to rest, in whatever order, give what Algorithm B gives
pub mod SettleSteps
-- Steps of the rule Narrow from listed values that come to rest, in whatever order, give each node the bit to which it is forced
pub mod StartSteps
-- A step that changes a plane makes the weight less
pub mod Weights
-- A step made twice is the step made once; a step elsewhere leaves a still gate still if it reads nothing that changed
pub mod Once
-- Marks, and what steps have made
pub mod Marks
-- What the passes over planes make of a lane
pub mod PassLanes
-- Pairs with a known bit in each lane: one plane says it all, and a connective of such pairs is one of these planes
pub mod Known
-- Gates in an order without feedback: what one evaluation of each makes
pub mod Forwards
-- The bits that lanes list for a node, as a pair that is known
pub mod ListedBits
-- What forced nodes say of a start: the least open node, the completed start, and which gates are stable in it
pub mod FaultLemmas
-- What the faults that were noted say of the listed values of a lane
pub mod FaultResults
-- One gate more in an order
pub mod OrderLemmas
-- Lists that are laid into one: one list more
pub mod ListParts
-- Lists of readers: one reader more
pub mod ReaderLemmas
-- What planes hold in a lane, from stage to stage, and what is read of it
pub mod Held
-- What gates without feedback, each evaluated once, hold in a lane: the forced start, and the result of Algorithm B
pub mod ForwardLanes
-- The fields of planes when lanes are loaded
pub mod Fields
-- What listed inputs force, with nothing else listed, is what Algorithm B makes of a state that is X everywhere
pub mod UnknownFills
