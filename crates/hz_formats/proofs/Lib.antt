-- Texts of netlists, in the format that the names of their files tell
pub mod NetlistTexts
-- A line that is written of a refusal of a netlist is that of its least fault
pub mod RefusedNetlists
