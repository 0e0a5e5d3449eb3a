-- Words, with their arguments, in the order in which one needs them.
--
-- SettlesAlong net first inputs values: a ternary state settles under one input after the other
-- IsOutcomeAlong net start inputs state: states one after the other, each an outcome of the one before under the next input
-- OutcomesExist, OutcomesExistAlong: from every state there is an outcome state
-- ValuesCover: a value that is 0 or 1 is right in every outcome state
-- HoldsGates netlist held: no node is held but gates
-- IsRoomFor variables room: there is room for a pass over so many variables
-- HoldsReset fields: the fields of the code's Reset have room for each variable

pub mod Values
pub mod Room
pub mod Inside
