-- What holds of statements in which the check found no fault
pub mod CheckedLemmas
-- The table of names, statement by statement
pub mod DefinitionLemmas
-- The names of a text, statement by statement
pub mod SeenNames
-- Entries as statements, and with their lines
pub mod EntryLemmas
-- The first answer of the passes over a text is its least fault
pub mod FaultLaws
-- The circuit of a text without fault is one, since its elements make one
pub mod FaultlessLaws
-- What is gathered of statements, with one more
pub mod ReaderLemmas
-- The circuit of statements is that of their elements, and it is one if the statements have no fault
pub mod ElementLemmas
-- What is noted of statements, with one more
pub mod NoteLemmas
-- Reading the statements of a text line by line
pub mod ParseLemmas
-- A printed text stands for its circuit
pub mod PrintedCircuit
-- A printed text has no fault
pub mod PrintedFaults
-- A printed text, line by line
pub mod PrintedLemmas
-- What the lines of a printed text are
pub mod PrintedLines
-- What the reader answers, by the law of faults
pub mod ReadLaws
-- What was read of a text is the draft of its circuit, and has its first fault
pub mod KeptStatements
-- The statement that a line means, from the head of its tokens
pub mod StatementLemmas
-- The first line that uses a name which no statement defines, by the names of the text
pub mod UndefinedNames
