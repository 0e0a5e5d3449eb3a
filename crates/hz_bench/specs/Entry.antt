-- The statement of an entry.
use Rattle.hz_line.specs.Statement.{Numbered}
use Rattle.hz_bench.specs.declared.entry.Entry.{Entry}
use Rattle.hz_bench.specs.declared.entry.Line.{Line}
use Rattle.hz_bench.specs.declared.entry.Line.TheVariants as line
use Rattle.hz_bench.specs.declared.entry.OutputLine.{OutputLine}
use Rattle.hz_bench.specs.Form.{statement_with}
use Rattle.hz_bench.specs.Statement.{Statement, Output}

-- the statement that an entry is
abbrev pub statement_of_entry : Entry → Statement
statement_of_entry entry = statement_with entry.name.now entry.form entry.sources.now

-- an entry as a statement with its line
abbrev pub numbered_of : Entry → Numbered Statement
numbered_of entry = record { line = entry.line; statement = statement_of_entry entry }

-- a line of an output as a statement with its line
abbrev pub numbered_output : OutputLine → Numbered Statement
numbered_output output = record { line = output.line; statement = Output output.name.now }

-- a line that is a statement, as a statement with its line
abbrev pub numbered_line : Line → Numbered Statement
numbered_line (line.Node entry) = numbered_of entry
numbered_line (line.Output output) = numbered_output output
