-- The lines of a text.
use Rattle.std.specs.Prelude.{ℕ, suc, length, Bool, ◌==◌, List, [], map, Option, Some, None}
use Rattle.std.specs.List.{slice_split}
use Rattle.std.specs.Str.Lines.{strip_carriage_return}
use Rattle.std.specs.Borrow.{Bor}

-- the most bytes of a text
abbrev pub most_text_bytes : ℕ
most_text_bytes = 16777216

-- the byte ends a line
abbrev pub is_line_feed : ℕ → Bool
is_line_feed byte = byte == 10

-- a text is cut at each line feed, and a line loses one carriage return at its end
abbrev pub lines_of : List ℕ → List (List ℕ)
lines_of text = map strip_carriage_return (slice_split is_line_feed text)

-- the lines of what a text has after a line, if anything
abbrev pub lines_of_rest : Option (Bor (List ℕ)) → List (List ℕ)
lines_of_rest None = []
lines_of_rest (Some rest) = lines_of rest.now

-- how many bytes a text has from a line's line feed on
abbrev pub rest_length : Option (Bor (List ℕ)) → ℕ
rest_length None = 0
rest_length (Some rest) = suc (length rest.now)
