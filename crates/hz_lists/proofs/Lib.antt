-- What a list of numbers names; lists that name nothing twice, and those that ascend
pub mod ListedLemmas
-- Parts of a list by their elements, and a list that is cut into parts: one part more, and the part with a number
pub mod PartLemmas
-- The least number for which something holds: of two properties, and of two numbers that may be there
pub mod LeastLemmas
-- Bits in words of 64: one bit is set or cleared, and the first and the last bit of a word
mod BitLemmas
-- Sets of numbers: their marks by the bits of words, and their least and greatest members
mod SetLemmas
-- The least and the greatest member of a set of numbers: what they are, and when there is none
pub mod Members
