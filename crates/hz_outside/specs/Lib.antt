-- Words, with their arguments, in the order in which one needs them.
--
-- extended_text text more: a text that may be known, with more bytes after it
-- GrewByPrefix was piece now: a prefix of the piece was written, and nothing else
-- Output: what a sink has written, if it tells that, and what waits in it
-- Took was piece now: what waited and then the piece is what was written since and what waits now
-- TookPrefix was piece now: the same of a prefix; the rest is lost
-- settled written, with_more out more: an output of which nothing waits, and one with more that waits
-- Rose was now: a count rose, or is at its last value
-- Counts, count_for counts place: a count for each place, which is the first file or the second
-- counts_after counts place: the counts after one more at a place
-- NamedBytes, contents_of files name: files in memory, and the bytes under a name
-- MemState, fails_next state: files in memory some of whose loads fail
-- GivesFile old name most bytes new: a load gave these bytes
-- GivesNoFile old place name most fault new: a load gave no file
-- PlainState, GivesPlain, GivesNoPlain: the same for files no load of which fails
-- NamedState, named_after_fault state place fault: what is counted of files that are opened by their names
-- Counted: where a sink writes each piece at once, and its faults
-- SinkState, put_by state bytes: a sink in memory, some of whose puts fail
-- PutsLess old bytes fault new: a put that did not write its whole piece
-- Gathering: a sink and the bytes in the buffer in front of it

pub mod Counts
pub mod Places
pub mod WrittenText
pub mod Shelf
pub mod MemFiles
pub mod PlainFiles
pub mod NamedFiles
pub mod WholeSink
pub mod MemSink
pub mod Gathered
