-- Words, with their arguments, in the order in which one needs them.
--
-- hazard_app: the command line as `clap` reads it
-- Texts, texts_of arguments: the texts of the arguments
-- Parses words result: the arguments of words, or their refusal
-- cap_of text: a cap on numbers of changes
-- show_of text: which variables have a line
-- demo_of text: the number of a demo
-- JobOf: a task on two files, or a demo
-- tasks: the tasks, each with its word
-- options_of texts: the options that the arguments give
-- job_with texts: the job that the arguments ask for
-- IsJobOfWords words result: the job of the words, or a refusal of words that ask for none

pub mod Command
pub mod Values
pub mod Job
pub mod Reading
