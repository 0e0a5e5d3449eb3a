-- Lemmas on lists of names
pub mod ListLemmas
-- Names that are compared by their first four bytes and their last four
pub mod EndLemmas
-- Lemmas on the words of a name
pub mod NameLemmas
-- What each call of `Circuit` makes of a circuit is one, and what holds of the gates of a whole circuit
pub mod CircuitLemmas
-- How the fields of a circuit change at each call, and what they then stand for
pub mod FieldLemmas
-- What the ternary extension says of the lists of bits that refine the pins
pub mod Extensions
-- Joins of sets of bits: what a join says, joins over more bits, and the join of a function's values over all refining lists
pub mod Joins
-- Kleene's connectives, folded over the pins, give the ternary extension
pub mod Kleene
-- Refinement and the order of ternary values, place by place: what callers need for lists of values and their parts
pub mod Refinements
-- By kind: a value that one bit at every pin gives, and a value that any one pin changed gives
pub mod BitOrSwitchLemmas
-- The canonical pattern: where there is one, and what it is by cases
pub mod Patterns
