-- What was put of a text, piece by piece, and what waits of it
pub mod Writing
-- Calls of a writer one after the other: what was given in all, and what its end answers
pub mod Writers
