-- Words, with their arguments, in the order in which one needs them.
--
-- IsCap cap: a cap on numbers of changes
-- most_demo_number: the greatest number that has a generated circuit
-- IsDemoNumber n: a number that has a generated circuit

pub mod Numbers
