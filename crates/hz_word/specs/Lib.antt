-- Words, with their arguments, in the order in which one needs them.
--
-- IsWord word: a nonempty list of bits without equal neighbours
-- first_letter word, last_letter word: where it begins and ends
-- change_count word: one for each letter but the first
-- current_letters words: the first letters of what is left of each word
-- IsMove words move: one or more words advance by a letter
-- after_move words move: what is left of them
-- IsPartOfWalk words moves: moves, one after the other
-- IsWalk words moves: moves that lead to all last letters
-- walk_changes gate words moves: how often the gate value changes on the way
-- IsWordOf kind words word: the word of a gate over the words of its pins: no walk has more changes, and one has as many
-- greatest_cap: the greatest cap on numbers of changes
-- capped_word cap word: the first letter, and the number of changes if it is at most the cap
-- IsAtMost less more: a number of changes under a cap is at most another
-- IsFold kind pins cap outcome: the capped word of a gate, for all words whose capped forms are the pins
-- history_of values: the values of a variable, with equal neighbours reduced to one
-- Covers word history: the capped word begins like the history, and bounds its changes
-- controlled_pair controlling cap first second, parity_pair cap first second: the word of a gate with two pins
-- kind_word kind cap pins: the word of a gate, pin by pin

pub mod Word
pub mod Walk
pub mod Capped
pub mod Covers
pub mod Pairs
