-- The statements of a netlist's text, by their lines.
use Rattle.std.specs.Prelude.{ℕ, List, [], map}
use Rattle.hz_line.specs.Statement as grammar
use Rattle.hz_line.specs.Statement.{Meaning, Nothing, Malformed, Means, Numbered}
use Rattle.hz_bench.specs.Statement.{Statement, Output, statement_of}

-- what a line is
abbrev pub bench_meaning : List ℕ → Meaning Statement
bench_meaning line = grammar.meaning_of statement_of line

-- what the line with this number is
abbrev pub bench_meaning_at : List ℕ → ℕ → Meaning Statement
bench_meaning_at text line = grammar.meaning_at statement_of text line

-- the statement that a line means; for a line that means none, an output without a name
abbrev pub statement_meant : Meaning Statement → Statement
statement_meant Nothing = Output []
statement_meant Malformed = Output []
statement_meant (Means statement) = statement

-- the statements without their lines
abbrev pub plain : List (Numbered Statement) → List Statement
plain statements = map (λ numbered. numbered.statement) statements

-- the statements of a text, with their lines
abbrev pub bench_statements : List ℕ → List (Numbered Statement)
bench_statements text = grammar.numbered_statements statement_of text

-- the statements of a text
abbrev pub statements_of : List ℕ → List Statement
statements_of text = map (λ it. it.statement) (grammar.numbered_statements statement_of text)
