-- The digits of codes, one by one
pub mod CodeLemmas
-- The words of a text that was written line by line
pub mod WordLemmas
-- The lines of a dump, by what is given to the writer
pub mod LineLemmas
-- The first word of a text
pub mod FirstWords
-- The words of dumps have bytes, and no white ones
pub mod WrittenWords
-- What is written is a dump
pub mod WrittenLaws
-- What the parts of the reader say, one after the other
pub mod ReadingLaws
-- Reading the words of a head
pub mod HeadLaws
-- Reading the bits of a state
pub mod ValueLaws
-- Reading the steps of a dump
pub mod StepLaws
-- A dump, as what its reader takes one part after the other
pub mod DumpLaws
