-- What holds of each item of a list
pub mod Lists
-- The two-level circuit of a cover computes its cover function, whatever gives its nodes values that agree with their gates
pub mod TwoLevel
-- A stable state of a circuit's network agrees with each gate of the circuit, node by node and name by name
pub mod StableElements
-- The covers of a text without fault that are not skipped: each has a row, and each row has a literal
pub mod KeptCovers
-- In every stable state each cover that is not skipped has its cover function at its output
pub mod CoverLaw
-- The tokens of joined lines are those of each line, one after the other
pub mod TokenLemmas
-- What a line of a text brings to its joined line
pub mod LineLemmas
-- When tokens are a row
pub mod RowLemmas
-- A joined line, read line by line
pub mod JoinLemmas
-- The lines of a text ascend, and so do its covers with their rows: what is found first is on the least line
pub mod Ascending
-- What is computed of a text number by number is its least fault
pub mod FaultLaws
-- Names keep their numbers while more of them are seen, defined and used
pub mod NumberSteps
-- What a draft holds, step by step: names, inputs, outputs
pub mod DraftSteps
-- Names of a text stay names of a text where a name is seen, defined or used
pub mod PlainLemmas
-- Names without signs are names of a text
pub mod SignLemmas
-- What a draft holds, step by step: the cover that is being read
pub mod CoverSteps
-- What a draft holds where a cover ends
pub mod Closing
-- What lines are, read one by one, is what they are as a whole
pub mod ReadLaws
-- What a text says takes bytes: its inputs and its covers have no more room than it has bytes
pub mod TextRoom
-- Reading a text line by line
pub mod LoopSteps
-- A cover that becomes its gates
pub mod Growing
-- What is computed of a text number by number is its least fault, and there is no other
pub mod FoundFaults
-- The faults that were noted, in their order
pub mod CheckLaws
-- Names that pins and outputs use: which constant covers are used, and which names are undefined
pub mod UseLaws
-- The last three faults, by what is kept: constant covers that are used, undefined names, and too many variables
pub mod LastFaults
-- The names of gates: apart from each other and from the names of a text, and not too long
pub mod NameLaws
-- The gates of a text without fault have as many pins as their kinds take, and there are not too many
pub mod WiredPins
-- The names of a text without fault: what their bytes are, and how long they are
pub mod WiredNames
-- The inputs and the outputs of covers: what holds of the names of lines holds of them, and where no name is defined twice they are apart
pub mod WiredLines
-- The gates of a cover: their names are names of nodes, and what their pins read is known
pub mod WiredGates
-- The elements of a text without fault make a circuit
pub mod WiredText
-- Texts whose circuits and faults are computed
pub mod Examples
-- A draft that can be built is one that every format builds
pub mod BuildLaws
-- The elements of a draft of a text without fault are those of the text, and the draft can be built
pub mod DraftText
-- The literals of a plane, pin by pin
pub mod LiteralLemmas
-- What entries of gates stand for, as gates and sources are appended
pub mod EntryLemmas
-- The gates of a cover, pin by pin and row by row
pub mod CoverEntries
-- A cover that was read, and the cover of the text
pub mod CoverText
-- What a draft of a text without fault holds: the elements of the text
pub mod DraftHolds
