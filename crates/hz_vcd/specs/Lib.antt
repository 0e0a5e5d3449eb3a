-- Words, with their arguments, in the order in which one needs them.
--
-- code_of var: the code of a variable, its number in base 94
-- words_of text: the words of a text
-- Place, head_places netlist: the words of a dump's head, each with whether blocks may stand before it
-- IsBlock words: a block, which means nothing
-- StandAt places words: words at these places, behind blocks where these may stand
-- state_words state, steps_words time state steps: the words of a state, and those of steps
-- AreFlips variables flips: what a step changes
-- IsDump netlist words state steps: a dump that means this state and these steps
-- dump_text netlist state steps: the text of a dump as it is written
-- MayGoOn netlist words: a dump may begin with these words
-- HasFormFault netlist words number: the words are no dump, and which is the first that is wrong

pub mod Code
pub mod Word
pub mod Dump
pub mod Printed
pub mod Steps
pub mod Inside
pub mod Wave
pub mod FirstWrong
pub mod Reading
