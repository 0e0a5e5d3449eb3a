-- Where each variable of a circuit's network stands, and what drives it there
pub mod Places
-- The fan-outs of all nodes: how they are gathered, and that they are those of the circuit
pub mod FanOutLemmas
-- The gates and wires of a circuit in three lists: how they are listed, and what they tell of each variable
pub mod Parts
-- What a network's fields tell of each variable
pub mod Fields
-- Excitations of all variables at once: place by place, and against refinement and the order of ternary states
pub mod Excitations
-- The sequences of the passes: how long their states are, how they grow or shrink, and where they stop
pub mod Sequences
-- What the rank of a variable says of what drives it one round earlier
pub mod Ranks
-- Derivations: what they force, that a node is forced to one bit at most, and how forced pins force a gate
pub mod Derivations
-- Wires by the node that drives them; what a list has at a gate's wires
pub mod Wires
-- The network of a circuit is wired: each wire comes from one node and goes into one gate
pub mod Wired
-- What a driver asks for depends on what it reads alone; and the readers of a variable are the wires from a node, or the gate of a wire
pub mod Readers
-- An accepted start, an open node and an unstable gate exclude each other
pub mod StartLemmas
-- Algorithm A from a ternary state: how long its states are, how they grow, and where the sequences of both passes stop
pub mod TernaryStarts
-- Where the sequences of the passes come to rest from a start of bits, and their ranks and settling rounds
pub mod RestRounds
-- What a variable is says how it is driven
pub mod DrivenLemmas
