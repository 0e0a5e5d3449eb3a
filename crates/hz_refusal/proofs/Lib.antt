-- How the end of a put becomes the answer of a call
pub mod PutEndings
-- What a call wrote, once all that waited is flushed
pub mod Flushed
-- A node that the refusal of a text names is one of the circuit
pub mod NamedNodes
-- A line that is written of a refusal is that of the least fault
pub mod RefusedTexts
