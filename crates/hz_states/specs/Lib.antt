-- Words, with their arguments, in the order in which one needs them.
--
-- same_state state other: two states have the same bits
-- has_state states state: a state is among these
-- with_state states state: the states with one more at the end, unless they have it
-- state_number states state: the number of a state, if it is there
-- state_at states number: the state with a number
-- packed bits, unpacked count bytes: bits in bytes, and back
-- hashing_with key: the hash of states with a key

pub mod States
pub mod Packing
pub mod Key
pub mod Hashing
