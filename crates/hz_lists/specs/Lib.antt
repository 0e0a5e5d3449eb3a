-- Words, with their arguments, in the order in which one needs them.
--
-- is_listed list i, IsRepeatFree list: a list names a number; it names none twice
-- parts_from start ends list: a list that is cut into parts
-- IsLeast holds i, IsLeastOf holds found: the least number for which something holds
-- option_min one other: the lesser of two numbers that may be there
-- with_number list number: the list with the number, which stays where it is or comes last
-- least_of marks, greatest_of marks: the first and the last place that is marked
-- most_numbers: the greatest count of a set of numbers
-- slot_bit words place: a bit in words of 64
-- IsTurned old new place bit: words after one bit was set or cleared
-- IsLowestIn words word place, IsHighestIn words word place: the first and the last bit of a word
-- Summarises upper lower: a bit for each word that has a bit
-- marks_of count words: of each number below a count whether its bit is set
-- HoldsNumberSet count low middle top: what the code's NumberSet holds

pub mod Listed
pub mod Parts
pub mod Least
pub mod NumberLists
pub mod NumberSets
pub mod Bits
pub mod Inside
