-- A gate's pins are added one after the other
pub mod Gates
-- The names of the circuit: a letter, or a letter and a number, and where they differ
pub mod Names
-- A name that stands nowhere in a list, and the place of one that does
pub mod FreshNames
-- The number of a node by its name, and so that the circuit of a number is the one that is built
pub mod Numbers
-- How many names, gates and pins the circuit has while it is built
pub mod Counts
-- Each gate may be added to the circuit, and what the circuit is then
pub mod Steps
-- The script of a number, by the numbers of its nodes
pub mod Scripts
-- What holds of the circuit and the script of every number
pub mod Laws
-- Circuits at rest: every node is forced, and every gate to the value of its gate function of its sources' forced values
pub mod RestingCircuits
-- The start of the script of a number leaves the circuit at rest
pub mod AtRest
