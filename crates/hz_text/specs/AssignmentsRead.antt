-- What the reader of assignments answers.
use Rattle.std.specs.Prelude.{◌≡◌, ℕ, false, ◌<◌, List, length, Option, None, Some}
use Rattle.hz_line.specs.declared.bytes.Punctuation.TheVariants.{Equals}
use Rattle.hz_line.specs.Reading.{by_tokens}
use Rattle.hz_line.specs.Token.{WordOf, PunctuationOf, tokens_of, with_token, has_no_token}
use Rattle.hz_text.specs.declared.assignments.Written.{Written}
use Rattle.hz_text.specs.Assignment.{assignments_of}

-- a line that has tokens begins with this assignment, before a shorter line; or its tokens are no assignments
abbrev pub IsAssignmentFirst : List ℕ → Option Written → Type 0
IsAssignmentFirst line None =
    has_no_token (tokens_of line) ≡ false → by_tokens assignments_of (tokens_of line) ≡ None
IsAssignmentFirst line (Some first) =
    (tokens_of line
    ≡ with_token (WordOf first.name.now)
    (with_token (PunctuationOf Equals)
    (with_token (WordOf first.word.now) (tokens_of first.rest.now))))
    × (length first.rest.now < length line)
