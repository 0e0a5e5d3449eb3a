-- Words, with their arguments, in the order in which one needs them.
--
-- is_word_byte byte, is_blank byte, is_punctuation byte: what a byte does in a line
-- most_text_bytes: the most bytes of a text
-- lines_of text: a text is cut at each line feed
-- TokenOf: a token: a word or punctuation
-- tokens_of line: the tokens of a line, or none if a forbidden byte stands before its comment
-- is_keyword word keyword: the word is the keyword, in any letter case
-- has_no_token tokens, has_word_first tokens, has_punctuation_first tokens: how a list of tokens begins
-- Meaning statement: what a line is: nothing, malformed, or a statement
-- meaning_of grammar line, meaning_at grammar text line: what a line is by a grammar, which makes tokens a statement
-- Numbered statement: a statement and the number of its line
-- numbered_statements grammar text: the statements of a text
-- PassesOn test statements line: a statement on this line passes the test
-- first_passing_line test statements: the line of the first statement that passes
-- first_malformed grammar line lines: the first malformed line
-- OrThat that holds fault: the fault is that one (memory ran out, say), or this holds of it
-- AreStatementsOf grammar text statements: the statements of a text without a malformed line
-- IsUnreadText grammar text why: why a text was not read
-- Faults, AreFound faults number found, IsLeastOfAll faults fault: the least fault of a text, number by number
-- IsNext line next, IsWordFirst line next, IsPunctuationFirst line next: what is taken off a line, by the tokens of all of it
-- BeginsWith line next, BeginsWithWord line next, BeginsWithPunctuation line next: the same, by the bytes of the line

pub mod OrThat
pub mod Byte
pub mod Keyword
pub mod Line
pub mod Token
pub mod Statement
pub mod Reading
pub mod LeastFault
